use Rattle.std.proofs.Common.{◌≡◌, ℕ, ◌≤◌, Some, subst}
use Rattle.tx_events.specs.Nearest.{near_id}
use Rattle.place_columns.specs.Columns.{IsWhere}
use Rattle.history_places.specs.MultiTold.{next_in}
use Rattle.multi_rules.proofs.Meanings.{future_iff}
use Rattle.multi_rules.proofs.meaning.is_multi_future_at.Goals as goal

pub returns : goal.returns
returns g c =
    let base = c.args.places.now.base in
    let h = c.args.places.now.events in
    let ahead = subst (λ (n : ℕ). (multi : ℕ) × (near_id n c.args.m.number ≡ Some multi) × (n ≤ multi)) c.number.ensures.value (c.is_ahead.ensures.0 c.if-not-is_ahead.false) in
    let there = subst (λ (n : ℕ). IsWhere (next_in base) h n c.where_next.result) c.number-2.ensures.value c.where_next.ensures in
    let i = future_iff base h g.asked.round g.asked.by c.args.from c.args.to c.requires.0 c.requires.1 c.args.m.number c.args.next c.where_next.result there ahead in
    (λ t. i.0 (c.meets.ensures.0 t), λ x. c.meets.ensures.1 (i.1 x))
