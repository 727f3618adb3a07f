-- One life more.
use Rattle.std.proofs.Common.{List, [], ap, arith, length, length-append, suc, sym, take, ℕ, ◌++◌, ◌+◌, ◌-◌, ◌<◌, ◌∙◌, ◌∷◌, ◌≡◌, ◌≤◌}
use Rattle.std.proofs.Math.Seq.{take-append-add}
use Rattle.tx_events.specs.LifeBase.{LifeBase, base_after}
use Rattle.tx_events.proofs.BaseSteps.{base_then, checkpoint_settles}
use Rattle.tx_events.specs.declared.record.Rec.{Rec}
use Rattle.tx_events.specs.declared.record.Rec.TheVariants as records
use Rattle.tx_model.specs.declared.report.Life.{Life}
use Rattle.tx_model.specs.declared.report.LifeReport.{LifeReport}
use Rattle.report_law.specs.Lives.{GoOn, GoesBehind, GoesOnFrom, base_of, recs_below}

pub go_on_push : (lives : List LifeReport) (r : LifeReport) → GoOn lives → GoesBehind lives r.life → GoOn (lives ++ r ∷ [])
go_on_push [] r go behind = tt
go_on_push (a ∷ []) r go behind = (behind, tt)
go_on_push (a ∷ (b ∷ lives)) r go behind = (go.0, go_on_push (b ∷ lives) r go.1 behind)

pub behind_push : (lives : List LifeReport) (r : LifeReport) (life : Life) → GoesOnFrom r.life life → GoesBehind (lives ++ r ∷ []) life
behind_push [] r life goes = goes
behind_push (a ∷ []) r life goes = goes
behind_push (a ∷ (b ∷ lives)) r life goes = behind_push (b ∷ lives) r life goes

-- A log ends with the records of a life, but for the checkpoint of its base, and those before them give that base. Then a
-- life that begins with what the log gives at a number from the flushed one to its end goes on from that one.
pub goes_on_at : (before after : Life) (base : LifeBase) (first : ℕ) (past own : List Rec) → before.recs ≡ records.Checkpoint before.from before.base ∷ own → first + length past ≡ before.from + 1 → base_after base past ≡ base_of before
    → before.from < before.flushed → before.flushed ≤ after.from → after.from ≤ first + length (past ++ own) → base_of after ≡ base_after base (take (after.from - first) (past ++ own)) → GoesOnFrom before after
goes_on_at before after base first past own split number same begun flushed upto is =
    let cp : Rec = records.Checkpoint before.from before.base in
    let size = length-append past own in
    let recs = ap (λ (t : List Rec). length t) split in
    let k : ℕ = after.from - (before.from + 1) in
    let place : after.from - first ≡ length past + k = omega (arith, number, begun, flushed) in
    let behind : after.from - before.from ≡ suc k = omega (arith, begun, flushed) in
    let below : recs_below before after.from ≡ cp ∷ take k own = ap (λ (t : List Rec). take (after.from - before.from) t) split ∙ ap (λ n. take n (cp ∷ own)) behind in
    record {
      flushed = flushed;
      upto = omega (arith, upto, size, number, recs);
      base = is
          ∙ (ap (λ n. base_after base (take n (past ++ own))) place
          ∙ (ap (λ (t : List Rec). base_after base t) (take-append-add past own k)
          ∙ (base_then base past (take k own)
          ∙ (ap (λ (b : LifeBase). base_after b (take k own)) (same ∙ sym (checkpoint_settles (base_of before) before.from))
          ∙ (sym (base_then (base_of before) (cp ∷ []) (take k own))
          ∙ ap (λ (t : List Rec). base_after (base_of before) t) (sym below))))));
    }
