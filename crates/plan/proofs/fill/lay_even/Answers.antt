use Rattle.plan.proofs.Filling.{even_none, even_more}
use Rattle.plan.proofs.fill.lay_even.Goals as goal

pub loop-init : goal.loop-init
loop-init g c = even_none g.met.P.Place.laws

pub loop-preserved : goal.loop-preserved
loop-preserved g c =
    let put = c.put_burst-place.ensures in even_more g.met.P.Place.laws c.loop.invariant put.places_after put.next
