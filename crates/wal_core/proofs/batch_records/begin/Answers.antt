use Rattle.std.proofs.Common.{◌≡◌, ◌++◌, ◌∷◌, [], ap, ◌∙◌, sym, List, ℕ}
use Rattle.tx_events.specs.declared.record.Counters.{Counters}
use Rattle.tx_events.specs.declared.record.Rec.{Rec}
use Rattle.tx_events.specs.declared.record.Rec.TheVariants as records
use Rattle.wal_core.proofs.BaseTests.{base_answer}
use Rattle.wal_core.proofs.Bodies.{begun_late, begun_not, begun_so}
use Rattle.wal_core.proofs.batch_records.begin.Goals as goal
use Rattle.wal_core.proofs.batch_records.begin.Goals.{then-at-number-via-then-at-number, then-at-number-via-else-at-number+then-not-is_base}

its_counters : (rec : Rec) (n : ℕ) (counters k : Counters) → rec ≡ records.Checkpoint n counters → k ≡ counters → rec ≡ records.Checkpoint n k
its_counters rec n counters k is same = is ∙ ap (records.Checkpoint n) (sym same)

pub returns-then-at-number : goal.returns-then-at-number
returns-then-at-number c = elim c.then-at-number.branch [
  | then-at-number-via-then-at-number w ↦ begun_late c.args.at c.in-Checkpoint.number c.in-Checkpoint.counters c.args.rec c.in-Checkpoint.is w.if-at-number.true
  | then-at-number-via-else-at-number+then-not-is_base w ↦
      begun_not c.args.at c.in-Checkpoint.number c.get.result.now c.args.rec (its_counters c.args.rec c.in-Checkpoint.number c.in-Checkpoint.counters c.get.result.now c.in-Checkpoint.is c.get.ensures)
      (sym (base_answer w.is_base.result c.get.result.now w.is_base.ensures) ∙ w.if-not-is_base.true)
]

pub returns : goal.returns
returns c =
    let n = c.in-Checkpoint.number in
    let k = c.get.result.now in
    let r : Rec = records.Checkpoint n c.in-Checkpoint.counters in
    begun_so c.args.at n k c.args.rec c.push.new.self (its_counters c.args.rec n c.in-Checkpoint.counters k c.in-Checkpoint.is c.get.ensures) c.if-at-number.false
    (sym (base_answer c.is_base.result k c.is_base.ensures) ∙ c.if-not-is_base.false)
    (c.in_ok-push.ensures.ok ∙ (ap (λ (l : List Rec). l ++ r ∷ []) c.new-recs.ensures ∙ ap (λ (s : Counters). records.Checkpoint n s ∷ []) (sym c.get.ensures)))
