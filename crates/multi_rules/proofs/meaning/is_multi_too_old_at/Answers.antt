use Rattle.std.proofs.Common.{◌≡◌, ℕ, ◌<◌, ◌≤◌, max, sym, subst, arith}
use Rattle.std.specs.Prelude.{IfSome}
use Rattle.tx_events.specs.Nearest.{near_id}
use Rattle.place_columns.specs.Columns.{IsWhere}
use Rattle.history_places.specs.MultiTold.{oldest_in}
use Rattle.multi_rules.proofs.Meanings.{old_iff}
use Rattle.multi_rules.proofs.meaning.is_multi_too_old_at.Goals as goal

pub returns : goal.returns
returns g c =
    let base = c.args.places.now.base in
    let h = c.args.places.now.events in
    let m = c.args.m.number in
    let span = c.where_oldest-span.result in
    let first = c.max-first.result in
    let there = subst (λ (n : ℕ). IsWhere (oldest_in base) h n span) c.number.ensures.value c.where_oldest-span.ensures in
    let first_is : first ≡ max span.from c.args.from = omega (arith, c.max-first.ensures) in
    let low : first < span.end = omega arith in
    let upto : first ≤ c.args.to = omega arith in
    let i = old_iff base h g.asked.round g.asked.by c.args.from c.args.to c.requires.0 c.requires.1 m c.args.oldest first span there first_is low upto in
    let at = λ (k : ℕ). IfSome (near_id c.next_at.result m) (λ multi. multi < k) in
    let near = λ (n : ℕ). IfSome (near_id n m) (λ multi. multi < c.args.oldest) in (
      λ t. i.0 (subst near c.next_at.ensures (subst at c.number-2.ensures.value (c.is_older.ensures.0 t))),
      λ x. c.is_older.ensures.1 (subst at (sym c.number-2.ensures.value) (subst near (sym c.next_at.ensures) (i.1 x))),
    )
