-- A session's lines, one after another: each does what it says.
use Rattle.std.proofs.Common.{◌≡◌, ℕ, Bool, true, false, cond, List, [], ◌∷◌, ◌++◌, None, Option, Some, refl, sym, ap, subst, ◌∙◌, map, append-nil, append_assoc, eqb-true}
use Rattle.std.proofs.lemmas.List.{map-append}
use Rattle.std.proofs.lemmas.List.Elements.{filter-append}
use Rattle.std.proofs.lemmas.Grind.{flat_map-append}
use Rattle.std.specs.List.{AllByRecursion, filter, flat_map}
use Rattle.tx_events.proofs.ListSteps.{both_all, eqb-refl}
use Rattle.tx_events.proofs.PlaceLemmas.{by_place}
use Rattle.tx_events.specs.Events.{events_of}
use Rattle.tx_events.specs.Places.{EachPlace}
use Rattle.tx_events.specs.declared.event.By.{By}
use Rattle.tx_events.specs.declared.refusal.Refusal.{Refusal}
use Rattle.tx_model.specs.declared.command.Command.{Command}
use Rattle.tx_model.specs.declared.command.Command.TheVariants as commands
use Rattle.tx_model.specs.declared.reply.Reply.{Reply}
use Rattle.tx_model.specs.declared.report.Line.{Line}
use Rattle.tx_model.specs.declared.report.Step.{Step}
use Rattle.tx_model.specs.Lines.{is_line_of, span_of, stance}
use Rattle.tx_model.specs.Replies.{RoundSpan}
use Rattle.tx_model.specs.Rounds.{lines_in}
use Rattle.tx_model.specs.Stance.{Stance, nothing_yet, stance_from}
use Rattle.tx_model.proofs.LineGrowth.{stance_push}
use Rattle.life_law.specs.Answering.{IsLawfulAnswer}
use Rattle.life_law.specs.Facts.{Facts}
use Rattle.life_law.specs.Lines.{IsLawfulLine, IsLawfulRound}
use Rattle.life_law.specs.MultiPlaces.{multi_span}
use Rattle.life_law.specs.Pending.{pending, pending_after, pending_from}
use Rattle.life_law.specs.Refused.{refused_by}
use Rattle.life_law.specs.Replies.{IsLawfulReply}
use Rattle.life_law.proofs.PendingSteps.{pending_push}
use Rattle.script_gen.proofs.Ranges.{IsDrawn}
use Rattle.script_gen.specs.Counts.{is_verdict}
use Rattle.run_report.specs.Counts.{is_failure, is_told_verdict}
use Rattle.run_report.proofs.Goes.{AreOf, At, IsTold, Outside, Place, goes}
use Rattle.run_report.proofs.Replies.{IsWide}
use Rattle.run_report.proofs.Running.{run_from, run_push, stepped}

-- ---- what holds behind each line

-- what holds of no line, and of one line more where it holds of those before it, holds of all lines of a life
pub by_line : (f : Facts) (Q : List Line → Type 0) → Q [] → ((before : List Line) (l : Line) (round multis : RoundSpan) → Q before → IsLawfulLine f round multis before l → Q (before ++ l ∷ [])) → (steps : List Step) → EachPlace steps (λ before step. IsLawfulRound f (flat_map lines_in before) (lines_in step)) → Q (flat_map lines_in steps)
by_line f Q none more steps each =
    by_place (λ before step. IsLawfulRound f (flat_map lines_in before) (lines_in step)) (λ done. Q (flat_map lines_in done)) none
    (λ done step q lawful. subst Q (sym (flat_map-append lines_in done (step ∷ []) ∙ ap (λ t. flat_map lines_in done ++ t) (append-nil (lines_in step)))) (inner done step q lawful))
    steps each
  where
    inner : (done : List Step) (step : Step) → Q (flat_map lines_in done) → IsLawfulRound f (flat_map lines_in done) (lines_in step) → Q (flat_map lines_in done ++ lines_in step)
    inner done step q lawful =
        let b = flat_map lines_in done in
        by_place (λ earlier. IsLawfulLine f (span_of f.events b (lines_in step)) (multi_span f.multis b (lines_in step)) (b ++ earlier)) (λ earlier. Q (b ++ earlier))
        (subst Q (sym (append-nil b)) q)
        (λ earlier l p lawful. subst Q (append_assoc b earlier (l ∷ [])) (more (b ++ earlier) l (span_of f.events b (lines_in step)) (multi_span f.multis b (lines_in step)) p lawful))
        (lines_in step) lawful

-- ---- a session's next line, and those of others

pub own_push : (k : ℕ) (lines : List Line) (l : Line) (b : Bool) → is_line_of k l ≡ b → filter (is_line_of k) (lines ++ l ∷ []) ≡ filter (is_line_of k) lines ++ cond b (l ∷ []) []
own_push k lines l b e = filter-append (is_line_of k) lines (l ∷ []) ∙ ap (λ b. filter (is_line_of k) lines ++ cond b (l ∷ []) []) e

-- ---- each line of a session does what it says

abbrev pub IsGood : Facts → Line → Type 0
IsGood f l = AreOf l.command (events_of l.by f.events) × (is_verdict l.reply ≡ is_told_verdict l.command)

-- one of the script's commands, that didn't fail
abbrev pub IsFine : Line → Type 0
IsFine l = IsDrawn l.command × (is_failure l.reply ≡ false)

abbrev pub commands_of : ℕ → List Line → List Command
commands_of k lines = map (λ l. l.command) (filter (is_line_of k) lines)

pub record Stands (f : Facts) (k : ℕ) (lines : List Line) (p : Place) : Type 0 where
  pub good : AllByRecursion (IsGood f) (filter (is_line_of k) lines)
  pub at : At p (stance f.events lines k)
  pub settled : pending f.recs f.events lines k ≡ None

abbrev pub Walks : Facts → ℕ → List Line → Type 0
Walks f k lines =
    (p : Place) → AllByRecursion IsFine (filter (is_line_of k) lines) → run_from (Some Outside) (commands_of k lines) ≡ Some p
    → Stands f k lines p

front_of : {X : Type 0} (P : X → Type 0) (xs ys : List X) → AllByRecursion P (xs ++ ys) → AllByRecursion P xs
front_of P [] ys a = tt
front_of P (x ∷ xs) ys a = (a.0, front_of P xs ys a.1)

last_of : {X : Type 0} (P : X → Type 0) (xs : List X) (x : X) → AllByRecursion P (xs ++ x ∷ []) → P x
last_of P [] x a = a.0
last_of P (y ∷ xs) x a = last_of P xs x a.1

-- a command of the script is answered as one that touches no multixact
plain_answer : (f : Facts) (before : List Line) (round multis : RoundSpan) (by : By) (s : Stance) (o : Option Refusal) (c : Command) (reply : Reply) → IsDrawn c → IsLawfulAnswer f before round multis by s o c reply → IsLawfulReply f round by s o c reply
plain_answer f before round multis by s o (commands.Multi pairs) reply d a = absurd d
plain_answer f before round multis by s o (commands.SeeMulti name m) reply d a = absurd d
plain_answer f before round multis by s o (commands.MultiFreeze m) reply d a = absurd d
plain_answer f before round multis by s o commands.Trim reply d a = absurd d
plain_answer f before round multis by s o c reply d a = a

-- a line of the session itself
own_line : (f : Facts) → IsWide f → (before : List Line) (l : Line) (round multis : RoundSpan) → Walks f l.by.session before → IsLawfulLine f round multis before l → Walks f l.by.session (before ++ l ∷ [])
own_line f w before l round multis q lawful p fine run =
    let k = l.by.session in
    let own = filter (is_line_of k) before in
    let cut : filter (is_line_of k) (before ++ l ∷ []) ≡ own ++ l ∷ [] = own_push k before l true (eqb-refl k) in
    let said : commands_of k (before ++ l ∷ []) ≡ commands_of k before ++ l.command ∷ [] = ap (map (λ l. l.command)) cut ∙ map-append (λ l. l.command) own (l ∷ []) in
    let last = stepped (run_from (Some Outside) (commands_of k before)) l.command p (sym (run_push (Some Outside) (commands_of k before) l.command) ∙ ap (run_from (Some Outside)) (sym said) ∙ run) in
    let all : AllByRecursion IsFine (own ++ l ∷ []) = subst (AllByRecursion IsFine) cut fine in
    let there = q last.from (front_of IsFine own (l ∷ []) all) last.was in
    let this = last_of IsFine own l all in
    let s = stance f.events before k in
    let told : IsTold f s l.by l.command l.reply (events_of l.by f.events) = record {
      round = round;
      has = lawful.events;
      standing = lawful.standing ∙ ap (refused_by l.command s) there.settled;
      lawful = subst (λ o. IsLawfulReply f round l.by s o l.command l.reply) there.settled (plain_answer f before round multis l.by s (pending f.recs f.events before k) l.command l.reply this.0 lawful.reply);
      fine = this.1;
    } in
    let g = goes f last.from p s l.by l.command l.reply (events_of l.by f.events) w this.0 last.goes there.at told in
    record {
      good = subst (AllByRecursion (IsGood f)) (sym cut) (both_all (IsGood f) own (l ∷ []) there.good ((g.does, g.verdict), tt));
      at = subst (At p) (sym (stance_push f.events before l)) g.then;
      settled = pending_push f.recs f.events before l ∙ ap (λ o. pending_after f.recs s o l.command l.reply) there.settled ∙ g.settled;
    }

-- a line of another one
other_line : (f : Facts) (k : ℕ) (before : List Line) (l : Line) → is_line_of k l ≡ false → Walks f k before → Walks f k (before ++ l ∷ [])
other_line f k before l e q p fine run =
    let same : filter (is_line_of k) (before ++ l ∷ []) ≡ filter (is_line_of k) before = own_push k before l false e ∙ append-nil (filter (is_line_of k) before) in
    let there = q p (subst (AllByRecursion IsFine) same fine) (ap (λ ls. run_from (Some Outside) (map (λ l. l.command) ls)) (sym same) ∙ run) in
    record {
      good = subst (AllByRecursion (IsGood f)) (sym same) there.good;
      at = subst (At p) (ap (stance_from nothing_yet f.events) (sym same)) there.at;
      settled = ap (pending_from f.recs f.events nothing_yet None) same ∙ there.settled;
    }

next_line : (f : Facts) (k : ℕ) → IsWide f → (before : List Line) (l : Line) (round multis : RoundSpan) → Walks f k before → IsLawfulLine f round multis before l → Walks f k (before ++ l ∷ [])
next_line f k w before l round multis q lawful = step (is_line_of k l) refl
  where
    step : (b : Bool) → is_line_of k l ≡ b → Walks f k (before ++ l ∷ [])
    step true e =
        let own : l.by.session ≡ k = eqb-true l.by.session k e in
        subst (λ k. Walks f k (before ++ l ∷ [])) own (own_line f w before l round multis (subst (λ k. Walks f k before) (sym own) q) lawful)
    step false e = other_line f k before l e q

no_lines : (f : Facts) (k : ℕ) → Walks f k []
no_lines f k p fine run = record { good = tt; at = subst (λ p. At p nothing_yet) (let same : Outside ≡ p = cc in same) refl; settled = refl }

pub all_walk : (f : Facts) (k : ℕ) → IsWide f → (steps : List Step) → EachPlace steps (λ before step. IsLawfulRound f (flat_map lines_in before) (lines_in step)) → Walks f k (flat_map lines_in steps)
all_walk f k w steps each = by_line f (Walks f k) (no_lines f k) (next_line f k w) steps each
