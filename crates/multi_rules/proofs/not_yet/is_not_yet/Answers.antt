use Rattle.std.proofs.Common.{◌≡◌, ◌<◌, ◌≤◌, true, false, length, drop, sym, ap, subst, ◌∙◌}
use Rattle.std.proofs.lemmas.Bool.{false≢true}
use Rattle.std.specs.BTreeSet.{contains}
use Rattle.std.specs.List.{list_any}
use Rattle.std.specs.Ordering.{nat_cmp}
use Rattle.tx_events.specs.declared.record.Counters.{Counters}
use Rattle.multi_rules.specs.Gens.{IsRecordedIn, is_ok_gen}
use Rattle.multi_rules.proofs.Waits.{above_iff, named_waits, waits, waits_above, waits_front, waits_named, waits_tail, waits_unrecorded}
use Rattle.multi_rules.proofs.not_yet.is_not_yet.Goals as goal

pub returns-then-not-is_below_a_pin : goal.returns-then-not-is_below_a_pin
returns-then-not-is_below_a_pin g c =
    let i = above_iff g.w.base g.w.all g.w.by c.args.own.now c.args.multi c.requires.1.1.1.1.1.1.1.0 in
    (λ t. absurd (false≢true t), λ y. absurd (false≢true (sym c.if-not-is_below_a_pin.true ∙ c.is_below_a_pin.ensures.1 (i.1 (waits_above g.w c.args.multi y)))))

pub returns-then-contains : goal.returns-then-contains
returns-then-contains g c =
    let n = length c.args.places.now.events in
    let r = c.requires.1.1.1.1.1.1.1.1.0 in
    let upto : g.w.round.to ≤ n = subst (λ k. k ≤ n) r.1 r.2 in
    let told = c.requires.1.1.1.1.1.0 c.args.multi in
    let yes : contains nat_cmp c.args.late.now c.args.multi ≡ true = ap (contains nat_cmp c.args.late.now) (sym c.number.ensures.value) ∙ sym c.contains.ensures ∙ c.if-contains.true in
    (λ t. absurd (false≢true t), λ y. absurd (false≢true (sym (waits_tail g.w n c.args.multi upto y) ∙ sym told ∙ yes)))

pub returns-then-is_known : goal.returns-then-is_known
returns-then-is_known g c =
    let k = c.is_known.ensures.0 c.if-is_known.true in
    let below : c.args.multi < g.w.base.multi = subst (λ (b : Counters). c.args.multi < b.multi) c.requires.0 k.0 in
    (λ t. absurd (false≢true t), λ y. absurd (waits_unrecorded g.w c.args.starts.now c.args.multi c.requires.1.1.1.1.1.1.0 y below k.1))

pub returns : goal.returns
returns g c =
    let v = c.args.places.now in
    let n = length v.events in
    let r = c.requires.1.1.1.1.1.1.1.1.0 in
    let upto : g.w.round.to ≤ n = subst (λ k. k ≤ n) r.1 r.2 in
    let by = c.requires.1.1.1.1.1.1.1.1.1 in
    let front = c.requires.1.1.1.1.0 in
    let i = above_iff g.w.base g.w.all g.w.by c.args.own.now c.args.multi c.requires.1.1.1.1.1.1.1.0 in
    let above = i.0 (c.is_below_a_pin.ensures.0 c.if-not-is_below_a_pin.false) in
    let no : contains nat_cmp c.args.late.now c.args.multi ≡ false = ap (contains nat_cmp c.args.late.now) (sym c.number.ensures.value) ∙ sym c.contains.ensures ∙ c.if-contains.false in
    let tail : list_any (is_ok_gen g.w.ok c.args.multi) (drop n g.w.all) ≡ false = sym (c.requires.1.1.1.1.1.0 c.args.multi) ∙ no in
    let unrecorded : c.args.multi < g.w.base.multi → IsRecordedIn c.args.starts.now c.args.multi → ⊥ = λ l k.
    absurd (false≢true (sym c.if-is_known.false ∙ c.is_known.ensures.1 (subst (λ (b : Counters). c.args.multi < b.multi) (sym c.requires.0) l, k))) in (
      λ t. waits g.w c.args.starts.now n c.args.multi upto c.requires.1.1.1.1.1.1.0 above tail unrecorded (waits_named g.w c.args.from c.args.to c.args.by v.events n c.args.multi r.0 r.1 by front (c.may_wait.ensures.0 t)),
      λ y. c.may_wait.ensures.1 (named_waits g.w c.args.from c.args.to c.args.by v.events n c.args.multi r.0 r.1 by front (waits_front g.w n c.args.multi y)),
    )
