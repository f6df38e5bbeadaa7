use native.Mathlib.Omega.{arith}
use Rattle.kit.proofs.Legal.{legal}
use Rattle.plan.proofs.Lying.{lies}
use Rattle.plan.proofs.Filling.{sizes, filled}
use Rattle.plan.proofs.fill.fill.Goals as goal

pub burst_bytes-first-requires : goal.burst_bytes-first-requires
burst_bytes-first-requires g c =
    let s = legal c.args.width c.args.beats c.requires.beats_value in
    record { width_nonzero = s.width_positive; beats_nonzero = s.beats-positive }

pub put_burst-next-requires : goal.put_burst-next-requires
put_burst-next-requires g c =
    let p = lies _ _ c.requires.beats_value c.requires.count_nonzero c.burst_bytes-first.ensures c.in_page-here.ensures c.stride-each.ensures in
    omega (arith, sizes g.met.P.Place.laws p c.args.places.now c.requires.count_in_bounds)

pub overflow_sub-here : goal.overflow_sub-here
overflow_sub-here g c =
    (lies _ _ c.requires.beats_value c.requires.count_nonzero c.burst_bytes-first.ensures c.in_page-here.ensures c.stride-each.ensures).within

pub lay-next-requires : goal.lay-next-requires
lay-next-requires g c =
    let p = lies _ _ c.requires.beats_value c.requires.count_nonzero c.burst_bytes-first.ensures c.in_page-here.ensures c.stride-each.ensures in
    let room = sizes g.met.P.Place.laws p c.args.places.now c.requires.count_in_bounds in
    record {
      each_nonzero = p.by.some;
      each_value = p.by.power;
      bytes_bound = omega (arith, p.within, p.fewer, c.requires.count_bound);
      bytes_in_bounds = omega (arith, room, c.put_burst-next.ensures.next, c.put_burst-next.auto.places);
    }

pub lay-requires : goal.lay-requires
lay-requires g c =
    let p = lies _ _ c.requires.beats_value c.requires.count_nonzero c.burst_bytes-first.ensures c.in_page-here.ensures c.stride-each.ensures in
    let room = sizes g.met.P.Place.laws p c.args.places.now c.requires.count_in_bounds in
    record {
      each_nonzero = p.by.some;
      each_value = p.by.power;
      bytes_bound = omega (arith, p.fewer, c.requires.count_bound);
      bytes_in_bounds = omega (arith, room, c.put_burst-next.ensures.next, c.lay-next.ensures.next, c.put_burst-next.auto.places, c.lay-next.auto.places);
    }

pub returns : goal.returns
returns g c =
    let p = lies _ _ c.requires.beats_value c.requires.count_nonzero c.burst_bytes-first.ensures c.in_page-here.ensures c.stride-each.ensures in
    let first = c.put_burst-next.ensures in
    let near = c.lay-next.ensures in
    filled g.met.P.Place.laws p c.args.places.now c.requires.count_in_bounds first.next first.places_after near.places_after near.next c.lay.ensures.places_after
