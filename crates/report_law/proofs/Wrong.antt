-- Of the worked lives one is lawful, and the others aren't.
use Rattle.std.proofs.Common.{Contains, ◌≡◌, ◌≢◌, ℕ, zero, suc, ◌<◌, ◌≤◌, List, [], ◌∷◌, true, false, Some, refl, sym, ap, subst, ⊎_elim, arith, slice_get}
use Rattle.std.proofs.lemmas.Bool.{false≢true}
use Rattle.std.specs.List.{AllZip}
use Rattle.tx_events.specs.declared.event.By.{By}
use Rattle.tx_events.specs.declared.event.Event.TheVariants as events
use Rattle.tx_events.specs.declared.multi.Member.{Member}
use Rattle.tx_events.specs.declared.multi.MultiEvent.TheVariants as multis
use Rattle.tx_events.specs.declared.record.Rec.{Rec}
use Rattle.tx_events.specs.declared.record.Rec.TheVariants as records
use Rattle.tx_events.specs.declared.refusal.Refusal.TheVariants as refusals
use Rattle.tx_events.proofs.Membership.{contains_has}
use Rattle.tx_model.specs.Replies.{RoundSpan}
use Rattle.tx_model.specs.declared.command.Command.TheVariants as commands
use Rattle.tx_model.specs.declared.reply.Reply.TheVariants as replies
use Rattle.tx_model.specs.declared.reply.Verdict.TheVariants as verdicts
use Rattle.tx_model.specs.declared.report.Step.TheVariants as steps
use Rattle.life_law.specs.MultiLines.{AreVerdicts, IsGenOf, IsTold}
use Rattle.life_law.specs.Worked.{by_at, line_of}
use Rattle.report_law.specs.WorkedMultis.{WorkedMultis, as_written, committed_member, first_lines, its_base, its_events, its_multis, look_at, lost_member, second_lines, second_record, seen_with}
use Rattle.report_law.proofs.Told.{it_is_lawful}

-- the id that was lost isn't visible to the snapshot that was taken first
misjudged : (round : RoundSpan) (taken pinned multi place offset : ℕ) (snapped by : By) (name : List ℕ) (members : List Member) → slice_get its_events taken ≡ Some (events.Snap name snapped) → slice_get (its_multis 2) pinned ≡ Some (multis.Hold (by_at 0 3) multi)
    → place < pinned → slice_get (its_multis 2) place ≡ Some (multis.Gen by multi offset members)
    → AllZip (IsTold its_base (3 ∷ []) its_events round taken) members (record { id = 3; mode = committed_member.mode; verdict = verdicts.Visible } ∷ record { id = 4; mode = lost_member.mode; verdict = verdicts.Visible } ∷ []) → ⊥
misjudged round (suc taken) pinned multi place offset snapped by name members s p l g a = absurd cc
misjudged round zero zero multi place offset snapped by name members s p l g a = absurd cc
misjudged round zero (suc zero) multi zero offset snapped by name members s p l g a =
    let is : committed_member ∷ lost_member ∷ [] ≡ members = cc in
    let told = subst (λ (ms : List Member). AllZip (IsTold its_base (3 ∷ []) its_events round 0) ms (record { id = 3; mode = committed_member.mode; verdict = verdicts.Visible } ∷ record { id = 4; mode = lost_member.mode; verdict = verdicts.Visible } ∷ [])) (sym is) a in
    false≢true told.1.0.verdict
misjudged round zero (suc zero) multi (suc place) offset snapped by name members s p l g a = absurd (omega (arith, l))
misjudged round zero (suc (suc zero)) multi place offset snapped by name members s p l g a = absurd cc
misjudged round zero (suc (suc (suc zero))) multi place offset snapped by name members s p l g a = absurd cc
misjudged round zero (suc (suc (suc (suc zero)))) multi place offset snapped by name members s p l g a =
    let same : 4 ≡ 3 = ap (λ (b : By). b.command) (own (by_at 0 4) (by_at 0 3) 2 multi p) in absurd (omega (arith, same))
  where
    own : (a b : By) (m n : ℕ) → Some (multis.Hold a m) ≡ Some (multis.Hold b n) → a ≡ b
    own a b m n e = cc
misjudged round zero (suc (suc (suc (suc (suc zero))))) multi place offset snapped by name members s p l g a = absurd cc
misjudged round zero (suc (suc (suc (suc (suc (suc pinned)))))) multi place offset snapped by name members s p l g a = absurd cc

verdicts_wrong : (round : RoundSpan) (number : ℕ) → AreVerdicts its_base (3 ∷ []) [] its_events (its_multis 2) round (by_at 0 3) number (record { id = 3; mode = committed_member.mode; verdict = verdicts.Visible } ∷ record { id = 4; mode = lost_member.mode; verdict = verdicts.Visible } ∷ []) → ⊥
verdicts_wrong round number v = ⊎_elim
    (λ (gen : (place : ℕ) × (place < v.pinned) × IsGenOf (its_multis 2) v.multi v.members place).
    misjudged round v.taken v.pinned v.multi gen.0 gen.2.offset _ gen.2.by v.snapshot.0 v.members v.snapshot.1 v.pin gen.1 gen.2.stands v.each)
    (λ (rec : (offset : ℕ) × Contains [] (v.multi, offset, v.members)). contains_has [] (v.multi, rec.0, v.members) rec.1)
    v.has

abbrev number_in : Rec → ℕ
number_in (records.Multi multi offset members) = multi
number_in rec = 0

-- the record of the second multixact isn't the first one's
not_its : (members : List Member) → second_record ≡ records.Multi 1 1 members → ⊥
not_its members e = let same : 2 ≡ 1 = ap number_in e in absurd (omega (arith, same))

pub worked_multis : WorkedMultis
worked_multis = record {
  lawful = it_is_lawful;
  stale = λ w.
      let line = w.life.lawful.each 1 (steps.Round 2 (second_lines 1)) refl 0 (line_of 0 4 (look_at 1) (replies.Refused (refusals.NotYet 1))) refl in
      ⊎_elim (λ (other : (0 ≢ 0) × (3 ≤ 0) × (0 < 6)). other.0 refl) (λ (q : true ≡ false). false≢true (sym q)) ((line.reply.1 refl).whose 0 1 (committed_member ∷ lost_member ∷ []) (by_at 0 2) refl);
  misjudged = λ w.
      let line = w.life.lawful.each 0 (steps.Round 1 (first_lines verdicts.Visible)) refl 2 (line_of 0 3 (look_at 1) (seen_with verdicts.Visible)) refl in
      let told = line.reply.1 refl in
      verdicts_wrong (record { from = 0; to = 1 }) told.0 told.2;
  unlogged = λ w.
      let line = w.life.lawful.each 0 (steps.Round 1 (first_lines verdicts.Hidden)) refl 1 (line_of 0 2 (commands.Multi (as_written committed_member ∷ as_written lost_member ∷ [])) (replies.Multi 1 1 false)) refl in
      ⊎_elim (λ (e : records.Checkpoint 2 its_base ≡ records.Multi 1 1 line.logged.0). cc)
      (λ t. ⊎_elim (λ (e : second_record ≡ records.Multi 1 1 line.logged.0). not_its line.logged.0 e) (λ none. none) t)
      (contains_has (records.Checkpoint 2 its_base ∷ second_record ∷ []) (records.Multi 1 1 line.logged.0) line.logged.1);
}
