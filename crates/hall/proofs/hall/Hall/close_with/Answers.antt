use Rattle.std.proofs.Common.{arith, ap, ◌∙◌, ◌+◌}
use Rattle.std.specs.Slots.{slots_items, slots_len, slots_counts}
use Rattle.hall.proofs.Closing.{closed_tells, take_step, never_none, stand_for, emptied_more, filled_less}
use Rattle.hall.proofs.Fitting.{sees_places}
use Rattle.hall.proofs.hall.Hall.close_with.Goals as goal

pub take-value-requires : goal.take-value-requires
take-value-requires g c = let l = c.loop-i.invariant in let t = c.loop-i-test.true in let n = l.count in (omega arith, l.filled c.loop-i.i (omega arith) (omega arith))

pub unreachable-requires : goal.unreachable-requires
unreachable-requires g c =
    let l = c.loop-i.invariant in let row = c.close_with-closed.result.slots in let k = (slots_counts row).0 in let e = c.close_with-closed.ensures.counts.1 in let z = c.args.self.sized.0 in
    let w = c.args.pass.fits.wide in let q = ap (λ t. t.slots) c.requires.own.table in let t = c.loop-i-test.true in
    let told = closed_tells _ _ _ _ _ _ _ _ _ _ _ (slots_items row) c.close_with-closed.ensures.values.2 c.requires.free c.requires.all (sees_places _ _ _ _ _ c.args.pass.fits _ _ _ (ap (λ t. t.words) c.requires.own.table ∙ c.args.self.sized.1) c.args.self.places) in
    never_none _ _ _ _ _ _ _ (told.1 c.loop-i.i (omega arith)) l.items c.take-value.ensures.value c.in_default.is

pub loop-i-preserved : goal.loop-i-preserved
loop-i-preserved g c =
    let l = c.loop-i.invariant in let o = c.take-value.ensures.others in let p = c.push_reserved.ensures in let t = c.loop-i-test.true in let n = l.count in let many = l.many in let k1 = (slots_counts c.loop-i.closed.slots).1 in
    let m = o.2 in let r = l.room in let cap = p.capacity in record {
      filled = λ j le lt. rw o.1 (filled_less _ _ (slots_len c.loop-i.closed.slots) l.filled j le (omega arith));
      emptied = λ j lt. rw o.1 (emptied_more _ _ l.emptied (omega arith) j lt);
      items = o.0 ∙ l.items;
      count = o.2 ∙ l.count;
      back = rw (p.items, o.0) (take_step _ _ _ _ _ l.back c.take-value.ensures.value c.in-Some.is);
      many = p.len ∙ ap (λ z. z + 1) l.many;
      room = omega arith;
    }

pub returns-clause-kept : goal.returns-clause-kept
returns-clause-kept g c =
    let row = c.close_with-closed.result.slots in let k = (slots_counts row).0 in let e = c.close_with-closed.ensures.counts.1 in let w = c.args.pass.fits.wide in let q = ap (λ t. t.slots) c.requires.own.table in
    (closed_tells _ _ _ _ _ _ _ _ _ _ _ (slots_items row) c.close_with-closed.ensures.values.2 c.requires.free c.requires.all (sees_places _ _ _ _ _ c.args.pass.fits _ _ _ (ap (λ t. t.words) c.requires.own.table ∙ c.args.self.sized.1) c.args.self.places)).0

pub returns-clause-stand : goal.returns-clause-stand
returns-clause-stand g c =
    let l = c.loop-i.invariant in let row = c.close_with-closed.result.slots in let k = (slots_counts row).0 in let e = c.close_with-closed.ensures.counts.1 in let z = c.args.self.sized.0 in
    let w = c.args.pass.fits.wide in let q = ap (λ t. t.slots) c.requires.own.table in let t = c.loop-i-test.false in let i = c.loop-i.auto.i-end in let many = l.many in
    let told = closed_tells _ _ _ _ _ _ _ _ _ _ _ (slots_items row) c.close_with-closed.ensures.values.2 c.requires.free c.requires.all (sees_places _ _ _ _ _ c.args.pass.fits _ _ _ (ap (λ t. t.words) c.requires.own.table ∙ c.args.self.sized.1) c.args.self.places) in
    ((let n = l.count in omega arith), stand_for _ _ _ _ _ _ _ l.back l.items (omega arith) told.1)
