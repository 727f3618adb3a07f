use Rattle.std.proofs.Common.{◌≡◌, ◌+◌, ◌-◌, ◌≤◌, List, Some, length, slice_get, ap, sym, subst, ◌∙◌, arith}
use Rattle.std.proofs.lemmas.Bool.{false≢true}
use Rattle.tx_events.specs.declared.multi.MultiEvent.{MultiEvent}
use Rattle.place_columns.specs.Columns.{IsWhere}
use Rattle.history_places.specs.MultiTold.{next_in}
use Rattle.history_places.specs.Starts.{BeginsAs}
use Rattle.tx_events.proofs.MultiPlaces.{stands_at}
use Rattle.multi_rules.proofs.GenPlaces.{bound_at, none_given, none_last, only_at}
use Rattle.multi_rules.proofs.made.gen_place.Goals as goal

pub returns-then-span-clause-none : goal.returns-then-span-clause-none
returns-then-span-clause-none c =
    let v = c.args.places.now in
    let is = subst (λ n. IsWhere (next_in v.base) v.events n c.where_next-span.result) c.number.ensures.value c.where_next-span.ensures in
    none_given v.base (BeginsAs v.starts) v.events c.events-events.ensures.legal c.args.multi c.where_next-span.result is c.if-span.true

pub returns-then-is_gen-clause-some : goal.returns-then-is_gen-clause-some
returns-then-is_gen-clause-some c =
    let v = c.args.places.now in
    let span = c.where_next-span.result in
    let is = subst (λ n. IsWhere (next_in v.base) v.events n span) c.number.ensures.value c.where_next-span.ensures in
    let e = c.in-Some.e.now in
    let k = c.in-Some.ensures.lookup in
    let there = subst (λ (xs : List MultiEvent). slice_get xs (span.end - 1) ≡ Some e) c.events-events.ensures.value (stands_at c.events-events.result.now (span.end - 1) e k.3.0 k.1) in
    let g = c.is_gen.ensures.0 c.if-is_gen.true in
    let l = c.if-span.false in
    let end : span.end - 1 + 1 ≡ span.end = omega arith in
    only_at v.base (BeginsAs v.starts) v.events c.events-events.ensures.legal c.args.multi (span.end - 1) span g.0 g.1 g.2 g.3 is end (omega arith) (there ∙ ap (λ (x : MultiEvent). Some x) g.4)

pub returns-else-is_gen-clause-none : goal.returns-else-is_gen-clause-none
returns-else-is_gen-clause-none c =
    let v = c.args.places.now in
    let span = c.where_next-span.result in
    let is = subst (λ n. IsWhere (next_in v.base) v.events n span) c.number.ensures.value c.where_next-span.ensures in
    let e = c.in-Some.e.now in
    let k = c.in-Some.ensures.lookup in
    let there = subst (λ (xs : List MultiEvent). slice_get xs (span.end - 1) ≡ Some e) c.events-events.ensures.value (stands_at c.events-events.result.now (span.end - 1) e k.3.0 k.1) in
    let l = c.if-span.false in
    let end : span.end - 1 + 1 ≡ span.end = omega arith in
    none_last v.base (BeginsAs v.starts) v.events c.events-events.ensures.legal c.args.multi (span.end - 1) span is end (λ giver multi offset members gen.
    absurd (false≢true (sym c.if-is_gen.false ∙ c.is_gen.ensures.1 (giver, multi, offset, members, cc))))

pub returns-in-None-clause-none : goal.returns-in-None-clause-none
returns-in-None-clause-none c =
    let v = c.args.places.now in
    let span = c.where_next-span.result in
    let is = subst (λ n. IsWhere (next_in v.base) v.events n span) c.number.ensures.value c.where_next-span.ensures in
    let past = subst (λ (xs : List MultiEvent). length xs ≤ span.end - 1) c.events-events.ensures.value c.in-None.ensures.lookup.3 in
    let l = c.if-span.false in
    let end : span.end - 1 + 1 ≡ span.end = omega arith in
    none_last v.base (BeginsAs v.starts) v.events c.events-events.ensures.legal c.args.multi (span.end - 1) span is end (λ giver multi offset members gen.
    let b = bound_at v.events (span.end - 1) _ gen in omega arith)
