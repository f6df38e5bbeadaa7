use native.Mathlib.Omega.{arith}
use Rattle.plan.proofs.Strides.{stretch}
use Rattle.plan.proofs.Filling.{even-fits, last-fits, exactly, and-more}
use Rattle.plan.proofs.fill.lay.Goals as goal

pub lay_even-next-requires-clause-bursts_in_bounds : goal.lay_even-next-requires-clause-bursts_in_bounds
lay_even-next-requires-clause-bursts_in_bounds g c =
    even-fits g.met.P.Place.laws (stretch c.divide-bursts.ensures) c.args.places.now c.args.place c.requires.bytes_in_bounds

pub returns-then-rest-eq0 : goal.returns-then-rest-eq0
returns-then-rest-eq0 g c =
    let even = c.lay_even-next.ensures in
    let both = exactly g.met.P.Place.laws (stretch c.divide-bursts.ensures) c.args.places.now c.args.place even.places_after even.next c.if-rest-eq0.true in
    record { next = both.0; places_after = both.1 }

pub put_burst-requires : goal.put_burst-requires
put_burst-requires g c =
    let fits = last-fits g.met.P.Place.laws (stretch c.divide-bursts.ensures) c.args.places.now c.args.place c.requires.bytes_in_bounds c.if-rest-eq0.false in
    omega (arith, fits, c.lay_even-next.ensures.next, c.lay_even-next.auto.places)

pub returns : goal.returns
returns g c =
    let even = c.lay_even-next.ensures in
    let last = c.put_burst.ensures in
    let both = and-more g.met.P.Place.laws (stretch c.divide-bursts.ensures) c.args.places.now c.args.place even.places_after even.next c.if-rest-eq0.false last.places_after last.next in
    record { next = both.0; places_after = both.1 }
