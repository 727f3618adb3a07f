use Rattle.std.proofs.Common.{List, [], ap, subst, sym, ℕ, ◌+◌, ◌++◌, ◌∙◌, ◌∷◌, ◌≡◌}
use Rattle.std.specs.Prelude.{OnOk}
use Rattle.tx_events.specs.declared.record.Rec.{Rec}
use Rattle.wal_core.specs.LogViews.{log_end}
use Rattle.engine_parts.proofs.Tails.{none_pending}
use Rattle.engine_host.proofs.first_log.begin_log.Goals as goal

-- nothing is pending in a log without a record
pub flush_first-requires-clause-pending : goal.flush_first-requires-clause-pending
flush_first-requires-clause-pending g c =
    let new = c.requires.new in
    c.in-Ok-append.ensures.pending ∙ (ap (λ (recs : List Rec). recs ++ c.in-Ok.first ∷ []) (none_pending c.args.log.now (new.flushed ∙ sym new.next)) ∙ ap (λ (rec : Rec). rec ∷ []) c.in-Ok.ensures.rec)

pub returns-in-Ok-append-clause-end : goal.returns-in-Ok-append-clause-end
returns-in-Ok-append-clause-end g c =
    subst (λ (n : ℕ). OnOk c.flush_first.result (log_end c.flush_first.new.log ≡ n + 62)) c.append.ensures.end c.flush_first.ensures.end
