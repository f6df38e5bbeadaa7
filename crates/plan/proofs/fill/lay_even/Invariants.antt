use Rattle.plan.proofs.Filling.{Even}
use Rattle.plan.proofs.fill.lay_even.Given as goal

abbrev pub invariant-loop : goal.invariant-loop
invariant-loop g l = let p = g.P.Place in Even g.met.P.Place.laws l.each l.at-2 l.place-2 l.initial.places l.counter l.places l.at l.place
