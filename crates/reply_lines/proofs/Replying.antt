-- Replies that go by places, case by case.
use Rattle.std.proofs.Common.{◌≡◌, ◌≢◌, ◌↔◌, ℕ, ◌<◌, ◌≤◌, Bool, true, false, List, [], Some, None, not, take, refl, sym, ap, subst, ◌∙◌, arith}
use Rattle.std.specs.Prelude.{IsTrue, nat_lt}
use Rattle.std.proofs.lemmas.Bool.{ltb-true}
use Rattle.std.proofs.lemmas.Option.{same_Some}
use Rattle.tx_events.specs.declared.event.By.{By}
use Rattle.tx_events.specs.declared.event.Event.{Event}
use Rattle.tx_events.specs.declared.full_multi.MultiId.{MultiId}
use Rattle.tx_events.specs.declared.order.Xid.{Xid}
use Rattle.tx_events.specs.declared.record.Counters.{Counters}
use Rattle.tx_events.specs.declared.refusal.Refusal.TheVariants as refusals
use Rattle.tx_model.specs.declared.command.Command.TheVariants as commands
use Rattle.tx_model.specs.declared.reply.Reply.{Reply}
use Rattle.tx_model.specs.declared.reply.Reply.TheVariants as replies
use Rattle.tx_model.specs.declared.command.Pair.{Pair}
use Rattle.tx_model.specs.declared.reply.MemberVerdict.{MemberVerdict}
use Rattle.tx_model.specs.declared.reply.Status.{Status}
use Rattle.tx_model.specs.Replies.{IsWarned, RoundSpan}
use Rattle.tx_model.specs.Stance.{Stance, lacking, snap_of}
use Rattle.history_places.specs.Told.{oldest_in}
use Rattle.place_rules.specs.declared.reading.Reading.{Reading}
use Rattle.place_rules.specs.Readings.{IsReading}
use Rattle.report_law.specs.MultiLines.{AreVerdicts, IsMultiWarned, MayCarry}
use Rattle.report_law.specs.Answers.{goes_by_places}
use Rattle.report_law.specs.Steps.{IsBackwardAt, IsDidAt, IsFutureAt, IsSeen, IsStatusAt, IsStoppedAt, IsTooOldFor}
use Rattle.reply_lines.specs.At.{IsLawfulHere, Spot, base_of, history_of, multis_of_life, round_of, stance_at}

high : (x : ℕ) → nat_lt 2 x ≡ true → 3 ≤ x
high x e = omega (arith, ltb-true 2 x e)

pub seen_is : (s : Spot) (name : List ℕ) (x : Xid) (number : ℕ) (visible : Bool) (reply : Reply) (b : Bool) → reply ≡ replies.Seen visible → snap_of name (stance_at s.at s.asking.by) ≡ Some number
    → IsTrue b ↔ IsSeen (base_of s) s.at.j.begun.committed (history_of s) s.asking.by number x.number visible → IsTrue b ↔ IsLawfulHere s (commands.See name x) reply
seen_is s name x number visible reply b is snap told =
    subst (λ (r : Reply). IsTrue b ↔ IsLawfulHere s (commands.See name x) r) (sym is) (
      λ t. (number, snap, told.0 t),
      λ l. told.1 (subst (λ n. IsSeen (base_of s) s.at.j.begun.committed (history_of s) s.asking.by n x.number visible) (same_Some l.0 number (sym l.1 ∙ snap)) l.2),
    )

-- where the session has no such snapshot
pub no_view_is : (s : Spot) (name : List ℕ) (x : Xid) (reply : Reply) → snap_of name (stance_at s.at s.asking.by) ≡ None → goes_by_places (commands.See name x) reply ≡ true → IsTrue false ↔ IsLawfulHere s (commands.See name x) reply
no_view_is s name x (replies.Seen visible) none goes = (λ t. absurd cc, λ l. let e = sym l.1 ∙ none in absurd cc)
no_view_is s name x (replies.Refused (refusals.TooOld oldest)) none goes = (λ t. absurd cc, λ l. let e = sym l.1 ∙ none in absurd cc)
no_view_is s name x reply none goes = absurd cc

pub old_is : (s : Spot) (name : List ℕ) (x : Xid) (number oldest : ℕ) (reply : Reply) (b : Bool) → reply ≡ replies.Refused (refusals.TooOld oldest) → snap_of name (stance_at s.at s.asking.by) ≡ Some number
    → IsTrue b ↔ IsTooOldFor (base_of s) (history_of s) (round_of s) s.asking.by number x.number oldest → IsTrue b ↔ IsLawfulHere s (commands.See name x) reply
old_is s name x number oldest reply b is snap told =
    subst (λ (r : Reply). IsTrue b ↔ IsLawfulHere s (commands.See name x) r) (sym is) (
      λ t. (number, snap, told.0 t),
      λ l. told.1 (subst (λ n. IsTooOldFor (base_of s) (history_of s) (round_of s) s.asking.by n x.number oldest) (same_Some l.0 number (sym l.1 ∙ snap)) l.2),
    )

pub did_is : (s : Spot) (x : Xid) (answer : Bool) (reply : Reply) (b : Bool) → reply ≡ replies.Did answer → goes_by_places (commands.Did x) reply ≡ true
    → IsTrue b ↔ IsDidAt (base_of s) s.at.j.begun.committed (history_of s) s.at.j.life.recs (round_of s) s.asking.by x.number answer → IsTrue b ↔ IsLawfulHere s (commands.Did x) reply
did_is s x answer reply b is goes told =
    let n = high x.number (ap (goes_by_places (commands.Did x)) (sym is) ∙ goes) in
    subst (λ (r : Reply). IsTrue b ↔ IsLawfulHere s (commands.Did x) r) (sym is) (
      λ t. (λ l. absurd (omega arith), λ m. told.0 t),
      λ l. told.1 (l.1 n),
    )

-- ---- writes

pub wrote_is : (s : Spot) (ids : List ℕ) (warn : Bool) (reply : Reply) (standing : Stance) (a late b t : Bool) → reply ≡ replies.Wrote warn ids → standing ≡ stance_at s.at s.asking.by
    → IsTrue a ↔ (standing.levels ≢ []) → IsTrue late ↔ IsWarned (base_of s) (history_of s) s.asking.by → IsTrue b ↔ (IsTrue warn ↔ IsTrue late) → IsTrue t ↔ (IsTrue a × IsTrue b) → IsTrue t ↔ IsLawfulHere s commands.Write reply
wrote_is s ids warn reply standing a late b t is stands is_a is_late is_b is_t =
    let open_ : IsTrue a ↔ ((stance_at s.at s.asking.by).levels ≢ []) = subst (λ (x : Stance). IsTrue a ↔ (x.levels ≢ [])) stands is_a in
    subst (λ (r : Reply). IsTrue t ↔ IsLawfulHere s commands.Write r) (sym is) (
      λ e. let w = is_t.0 e in let f = is_b.0 w.1 in (open_.0 w.0, (λ u. is_late.0 (f.0 u), λ u. f.1 (is_late.1 u))),
      λ l. is_t.1 (open_.1 l.0, is_b.1 (λ u. is_late.1 (l.1.0 u), λ u. l.1.1 (is_late.0 u))),
    )

pub stopped_is : (s : Spot) (next stop : ℕ) (reply : Reply) (standing : Stance) (a b t : Bool) → reply ≡ replies.Refused (refusals.Stop next stop) → standing ≡ stance_at s.at s.asking.by
    → IsTrue a ↔ (1 ≤ lacking standing.levels) → IsTrue b ↔ IsStoppedAt (base_of s) (history_of s) (round_of s) s.asking.by next stop → IsTrue t ↔ (IsTrue a × IsTrue b) → IsTrue t ↔ IsLawfulHere s commands.Write reply
stopped_is s next stop reply standing a b t is stands is_a is_b is_t =
    let some : IsTrue a ↔ (1 ≤ lacking (stance_at s.at s.asking.by).levels) = subst (λ (x : Stance). IsTrue a ↔ (1 ≤ lacking x.levels)) stands is_a in
    subst (λ (r : Reply). IsTrue t ↔ IsLawfulHere s commands.Write r) (sym is) (
      λ e. let w = is_t.0 e in (some.0 w.0, is_b.0 w.1),
      λ l. is_t.1 (some.1 l.0, is_b.1 l.1),
    )

-- ---- states

pub known_is : (s : Spot) (x : ℕ) (status : Status) (reply : Reply) (b : Bool) → reply ≡ replies.Known status → goes_by_places (commands.Status x) reply ≡ true
    → IsTrue b ↔ IsStatusAt (base_of s) s.at.j.begun.committed (history_of s) s.asking.by x status → IsTrue b ↔ IsLawfulHere s (commands.Status x) reply
known_is s x status reply b is goes told =
    let n = high x (ap (goes_by_places (commands.Status x)) (sym is) ∙ goes) in
    subst (λ (r : Reply). IsTrue b ↔ IsLawfulHere s (commands.Status x) r) (sym is) (
      λ t. (λ l. absurd (omega arith), λ m. told.0 t),
      λ l. told.1 (l.1 n),
    )

pub future_is : (s : Spot) (x next : ℕ) (reply : Reply) (b : Bool) → reply ≡ replies.Refused (refusals.Future next) → goes_by_places (commands.Status x) reply ≡ true
    → IsTrue b ↔ IsFutureAt (base_of s) (history_of s) s.asking.by x next → IsTrue b ↔ IsLawfulHere s (commands.Status x) reply
future_is s x next reply b is goes told =
    let n = high x (ap (goes_by_places (commands.Status x)) (sym is) ∙ goes) in
    subst (λ (r : Reply). IsTrue b ↔ IsLawfulHere s (commands.Status x) r) (sym is) (λ t. (n, told.0 t), λ l. told.1 l.1)

pub status_old_is : (s : Spot) (x oldest : ℕ) (reply : Reply) (a b t : Bool) → reply ≡ replies.Refused (refusals.TooOld oldest) → goes_by_places (commands.Status x) reply ≡ true
    → IsTrue a ↔ (x < oldest) → IsTrue b ↔ MayCarry (base_of s) (history_of s) (round_of s) oldest → IsTrue t ↔ (IsTrue a × IsTrue b) → IsTrue t ↔ IsLawfulHere s (commands.Status x) reply
status_old_is s x oldest reply a b t is goes is_a is_b is_t =
    let n = high x (ap (goes_by_places (commands.Status x)) (sym is) ∙ goes) in
    subst (λ (r : Reply). IsTrue t ↔ IsLawfulHere s (commands.Status x) r) (sym is) (
      λ e. let w = is_t.0 e in (n, is_a.0 w.0, is_b.0 w.1),
      λ l. is_t.1 (is_a.1 l.1, is_b.1 l.2),
    )

-- ---- multixacts

pub verdicts_are : (s : Spot) (name : List ℕ) (m : MultiId) (number : ℕ) (verdicts : List MemberVerdict) (b : Bool) → snap_of name (stance_at s.at s.asking.by) ≡ Some number
    → IsTrue b ↔ AreVerdicts (base_of s) s.at.j.begun.committed s.at.j.begun.recorded (history_of s) (multis_of_life s) (round_of s) s.asking.by number verdicts → IsTrue b ↔ IsLawfulHere s (commands.SeeMulti name m) (replies.Verdicts verdicts)
verdicts_are s name m number verdicts b snap told = (
  λ t. (number, snap, told.0 t),
  λ l. told.1 (subst (λ n. AreVerdicts (base_of s) s.at.j.begun.committed s.at.j.begun.recorded (history_of s) (multis_of_life s) (round_of s) s.asking.by n verdicts) (same_Some l.0 number (sym l.1 ∙ snap)) l.2),
)

pub no_snapshot_is : (s : Spot) (name : List ℕ) (m : MultiId) (verdicts : List MemberVerdict) → snap_of name (stance_at s.at s.asking.by) ≡ None → IsTrue false ↔ IsLawfulHere s (commands.SeeMulti name m) (replies.Verdicts verdicts)
no_snapshot_is s name m verdicts none = (λ t. absurd cc, λ l. let e = sym l.1 ∙ none in absurd cc)

pub made_is : (s : Spot) (pairs : List Pair) (multi offset : ℕ) (warn : Bool) (reply : Reply) (late b : Bool) → reply ≡ replies.Multi multi offset warn
    → IsTrue late ↔ IsMultiWarned (base_of s) (multis_of_life s) s.asking.by multi → IsTrue b ↔ (IsTrue warn ↔ IsTrue late) → IsTrue b ↔ IsLawfulHere s (commands.Multi pairs) reply
made_is s pairs multi offset warn reply late b is is_late is_b =
    subst (λ (r : Reply). IsTrue b ↔ IsLawfulHere s (commands.Multi pairs) r) (sym is) (
      λ e. let f = is_b.0 e in (λ u. is_late.0 (f.0 u), λ u. f.1 (is_late.1 u)),
      λ l. is_b.1 (λ u. is_late.1 (l.0 u), λ u. l.1 (is_late.0 u)),
    )

-- ---- the oldest id by its number

pub backward_by : (base : Counters) (h : List Event) (round : RoundSpan) (by : By) (r : Reading) (oldest now : ℕ) (b : Bool) → IsReading h round by r → oldest < now
    → IsTrue b ↔ ((p : ℕ) × (r.from ≤ p) × (p ≤ r.to) × (now ≡ oldest_in base (take p h))) → IsTrue b ↔ IsBackwardAt base h round by oldest now
backward_by base h round by r oldest now b read older told = (
  λ t. let w = told.0 t in record { place = w.0; read = (read.read w.0).1 (w.1, w.2); now_is = w.3; older = older },
  λ w. let l = (read.read w.place).0 w.read in told.1 (w.place, l.0, l.1, w.now_is),
)

-- ---- tests

pub told : (b : Bool) → not b ≡ false → IsTrue b
told true e = refl
told false e = absurd cc

pub untold : (b : Bool) → not b ≡ true → IsTrue b → ⊥
untold true e t = absurd cc
untold false e t = absurd cc

pub flipped : (b : Bool) → not b ≡ true → b ≡ false
flipped true e = absurd cc
flipped false e = refl
