-- The lines of a life's records.
use Rattle.std.proofs.Common.{◌≡◌, ℕ, zero, suc, ◌+◌, ◌<◌, ◌≤◌, ◌↔◌, Some, List, [], ◌∷◌, Contains, length, take, refl, sym, ap, subst, ◌∙◌, arith}
use Rattle.std.specs.List.{AllByRecursion, slice_get}
use Rattle.std.proofs.Math.Seq.{take-length}
use Rattle.tx_events.specs.declared.multi.Member.{Member}
use Rattle.tx_events.specs.declared.multi.MultiEvent.{MultiEvent}
use Rattle.tx_events.specs.Multis.{AreLegalMultis}
use Rattle.history_places.specs.MultiTold.{MultiReplayed}
use Rattle.history_places.specs.Starts.{BeginsAs, start_of}
use Rattle.event_rules.specs.Fronts.{IsMultiFront}
use Rattle.report_check.proofs.Sections.{placed_next}
use Rattle.reply_lines.proofs.Judging.{multi_front_reaches}
use Rattle.report_law.specs.MultiLines.{of_records}
use Rattle.report_law.specs.ReportLines.{IsLawfulAt, ReportLine, placed}
use Rattle.report_law.specs.Steps.{Judged}
use Rattle.report_check.proofs.Judging.{as_started}

one_got : {X : Type 0} (xs : List X) (n : ℕ) → n < length xs → (x : X) × (slice_get xs n ≡ Some x)
one_got [] n l = absurd (omega arith)
one_got (x ∷ xs) zero l = (x, refl)
one_got (x ∷ xs) (suc n) l = one_got xs n (omega arith)

-- the first n lines are lawful, where each is
pub placed_each : {X : Type 0} (line : ℕ → X → ReportLine) (xs : List X) (n : ℕ) → n ≤ length xs → ((p : ℕ) (x : X) → p < n → slice_get xs p ≡ Some x → IsLawfulAt (line p x)) → AllByRecursion IsLawfulAt (placed line 0 (take n xs))
placed_each line xs zero l f = tt
placed_each {X} line xs (suc n) l f =
    let one = one_got xs n (omega arith) in
    let before = placed_each line xs n (omega arith) (λ p x m e. f p x (omega arith) e) in
    let z : n + 1 ≡ suc n = omega arith in
    subst (λ k. AllByRecursion IsLawfulAt (placed line 0 (take k xs))) z (placed_next line xs n one.0 before one.1 (f n one.0 (omega arith) one.1))

pub placed_all : {X : Type 0} (line : ℕ → X → ReportLine) (xs : List X) → ((p : ℕ) (x : X) → slice_get xs p ≡ Some x → IsLawfulAt (line p x)) → AllByRecursion IsLawfulAt (placed line 0 xs)
placed_all {X} line xs f = subst (λ (t : List X). AllByRecursion IsLawfulAt (placed line 0 t)) (take-length xs) (placed_each line xs (length xs) (omega arith) (λ p x m e. f p x e))

-- where all multixact events are lawful, the legal front has them all
pub all_legal : (j : Judged) (r : MultiReplayed) → IsMultiFront j.begun.counters r.starts j.life.multis r
    → ((multi offset : ℕ) → Contains r.starts (start_of multi offset) ↔ ((members : List Member) × Contains j.begun.recorded (multi, offset, members)))
    → AreLegalMultis j.begun.counters (of_records j.begun.counters j.begun.recorded) j.life.multis → r.events ≡ j.life.multis
all_legal j r front offsets legal =
    let whole : take (length j.life.multis) j.life.multis ≡ j.life.multis = take-length j.life.multis in
    let started : AreLegalMultis j.begun.counters (BeginsAs r.starts) (take (length j.life.multis) j.life.multis) =
    subst (λ (h : List MultiEvent). AreLegalMultis j.begun.counters (BeginsAs r.starts) h) (sym whole) (as_started j r.starts offsets j.life.multis legal) in
    let reach = multi_front_reaches j.begun.counters j.life.multis r (length j.life.multis) front (omega arith) started in
    let within = front.within in
    let size : length r.events ≡ length j.life.multis = omega arith in
    front.events_are ∙ ap (λ n. take n j.life.multis) size ∙ whole
