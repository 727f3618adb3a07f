-- The last answers along the lines.
use Rattle.std.proofs.Common.{◌≡◌, ℕ, ◌+◌, ◌<◌, List, [], ◌∷◌, ◌++◌, Option, Some, None, Bool, true, false, cond, ◌==◌, length, get_or, set, refl, ap, sym, subst, ◌∙◌, ⊎_elim, eqb-true, arith, append-nil, zero, suc, take, drop}
use Rattle.std.proofs.lemmas.Bool.{cases_Bool, false≢true}
use Rattle.std.proofs.lemmas.List.{flat_map_more, get_or-set_other, get_or-set_same, drop_all, length-set, take_all, take_more}
use Rattle.std.proofs.lemmas.List.Elements.{filter-append}
use Rattle.std.proofs.lemmas.List.Sums.{fold_push}
use Rattle.std.specs.List.{AllByRecursion, filter, flat_map, fold}
use Rattle.tx_events.proofs.ListSteps.{eqb-refl}
use Rattle.tx_model.specs.declared.command.Command.{Command}
use Rattle.tx_model.specs.declared.command.Command.TheVariants as commands
use Rattle.tx_model.specs.declared.reply.Reply.{Reply}
use Rattle.tx_model.specs.declared.report.Line.{Line}
use Rattle.tx_model.specs.declared.report.Step.{Step}
use Rattle.tx_model.specs.Lines.{is_line_of}
use Rattle.tx_model.specs.Rounds.{lines_in}
use Rattle.report_law.specs.Records.{is_abort, is_commit, last_answer}
use Rattle.record_rules.specs.declared.answers.Answers.{Answers}
use Rattle.record_rules.specs.Answered.{AreAnswers, IsAnswered, abort_after, commit_after, is_disk_fault, is_not_done, was_told}

abbrev pick : Bool → Option Reply → Line → Option Reply
pick true earlier l = Some l.reply
pick false earlier l = earlier

abbrev after : (Command → Bool) → Option Reply → Line → Option Reply
after is earlier l = pick (is l.command) earlier l

last_is : (is : Command → Bool) (lines : List Line) (s : ℕ) → last_answer is lines s ≡ fold (after is) None (filter (is_line_of s) lines)
last_is is lines s = refl

split : (is : Command → Bool) (lines : List Line) (l : Line) (s : ℕ) → last_answer is (lines ++ l ∷ []) s ≡ fold (after is) None (filter (is_line_of s) lines ++ cond (is_line_of s l) (l ∷ []) [])
split is lines l s = last_is is (lines ++ l ∷ []) s ∙ ap (fold (after is) None) (filter-append (is_line_of s) lines (l ∷ []))

own_push : (is : Command → Bool) (lines : List Line) (l : Line) → last_answer is (lines ++ l ∷ []) l.by.session ≡ after is (last_answer is lines l.by.session) l
own_push is lines l =
    let s = l.by.session in
    split is lines l s ∙ ap (λ b. fold (after is) None (filter (is_line_of s) lines ++ cond b (l ∷ []) [])) (eqb-refl s) ∙ fold_push (after is) None (filter (is_line_of s) lines) l

other_push : (is : Command → Bool) (lines : List Line) (l : Line) (s : ℕ) → (l.by.session == s) ≡ false → last_answer is (lines ++ l ∷ []) s ≡ last_answer is lines s
other_push is lines l s other =
    split is lines l s ∙ ap (λ b. fold (after is) None (filter (is_line_of s) lines ++ cond b (l ∷ []) [])) other ∙ ap (fold (after is) None) (append-nil (filter (is_line_of s) lines))

told_commit : (old : Option Reply) (l : Line) (c : Command) → commit_after (was_told is_not_done old) c l.reply ≡ was_told is_not_done (pick (is_commit c) old l)
told_commit old l commands.Commit = refl
told_commit old l commands.Begin = refl
told_commit old l commands.Save = refl
told_commit old l commands.Write = refl
told_commit old l commands.Release = refl
told_commit old l commands.Undo = refl
told_commit old l commands.Abort = refl
told_commit old l (commands.Snap name) = refl
told_commit old l (commands.DropSnap name) = refl
told_commit old l (commands.See name x) = refl
told_commit old l (commands.Status x) = refl
told_commit old l (commands.Did x) = refl
told_commit old l commands.Horizon = refl
told_commit old l (commands.Freeze oldest) = refl
told_commit old l commands.Trim = refl
told_commit old l (commands.Multi members) = refl
told_commit old l (commands.SeeMulti name multi) = refl
told_commit old l (commands.MultiFreeze multi) = refl

told_abort : (old : Option Reply) (l : Line) (c : Command) → abort_after (was_told is_disk_fault old) c l.reply ≡ was_told is_disk_fault (pick (is_abort c) old l)
told_abort old l commands.Commit = refl
told_abort old l commands.Begin = refl
told_abort old l commands.Save = refl
told_abort old l commands.Write = refl
told_abort old l commands.Release = refl
told_abort old l commands.Undo = refl
told_abort old l commands.Abort = refl
told_abort old l (commands.Snap name) = refl
told_abort old l (commands.DropSnap name) = refl
told_abort old l (commands.See name x) = refl
told_abort old l (commands.Status x) = refl
told_abort old l (commands.Did x) = refl
told_abort old l commands.Horizon = refl
told_abort old l (commands.Freeze oldest) = refl
told_abort old l commands.Trim = refl
told_abort old l (commands.Multi members) = refl
told_abort old l (commands.SeeMulti name multi) = refl
told_abort old l (commands.MultiFreeze multi) = refl

-- the session's own line
own_answered : (lines : List Line) (l : Line) (old new : Answers) → IsAnswered lines l.by.session old → new.commit ≡ commit_after old.commit l.command l.reply → new.abort ≡ abort_after old.abort l.command l.reply → IsAnswered (lines ++ l ∷ []) l.by.session new
own_answered lines l old new a commit abort = record {
  commit = commit ∙ ap (λ b. commit_after b l.command l.reply) a.commit ∙ told_commit (last_answer is_commit lines l.by.session) l l.command ∙ ap (was_told is_not_done) (sym (own_push is_commit lines l));
  abort = abort ∙ ap (λ b. abort_after b l.command l.reply) a.abort ∙ told_abort (last_answer is_abort lines l.by.session) l l.command ∙ ap (was_told is_disk_fault) (sym (own_push is_abort lines l));
}

other_answered : (lines : List Line) (l : Line) (s : ℕ) (a : Answers) → (l.by.session == s) ≡ false → IsAnswered lines s a → IsAnswered (lines ++ l ∷ []) s a
other_answered lines l s a other is = record {
  commit = is.commit ∙ ap (was_told is_not_done) (sym (other_push is_commit lines l s other));
  abort = is.abort ∙ ap (was_told is_disk_fault) (sym (other_push is_abort lines l s other));
}

pub noted : (lines : List Line) (l : Line) (answers : List Answers) (old new : Answers) → AreAnswers lines answers → l.by.session < 64 → old ≡ get_or answers l.by.session old → new.commit ≡ commit_after old.commit l.command l.reply → new.abort ≡ abort_after old.abort l.command l.reply → AreAnswers (lines ++ l ∷ []) (set answers l.by.session new)
noted lines l answers old new a below old_is commit abort = record {
  size = length-set answers l.by.session new ∙ a.size;
  each = λ s m d. ⊎_elim
      (λ (own : (l.by.session == s) ≡ true).
      let same : l.by.session ≡ s = eqb-true l.by.session s own in
      let now : get_or (set answers l.by.session new) s d ≡ new = ap (λ k. get_or (set answers l.by.session new) k d) (sym same) ∙ get_or-set_same answers l.by.session new d (subst (λ k. l.by.session < k) (sym a.size) below) in
      subst (IsAnswered (lines ++ l ∷ []) s) (sym now) (subst (λ k. IsAnswered (lines ++ l ∷ []) k new) same
      (own_answered lines l old new (subst (IsAnswered lines l.by.session) (sym old_is) (a.each l.by.session below old)) commit abort)))
      (λ (other : (l.by.session == s) ≡ false).
      let now : get_or (set answers l.by.session new) s d ≡ get_or answers s d = get_or-set_other answers l.by.session s new d (λ q. false≢true (sym other ∙ ap (λ y. y == s) (sym q) ∙ eqb-refl s)) in
      subst (IsAnswered (lines ++ l ∷ []) s) (sym now) (other_answered lines l s (get_or answers s d) other (a.each s m d)))
      (cases_Bool (l.by.session == s));
}

-- a session that isn't asked for
pub passed_over : (lines : List Line) (l : Line) (answers : List Answers) → AreAnswers lines answers → (l.by.session < 64 → ⊥) → AreAnswers (lines ++ l ∷ []) answers
passed_over lines l answers a past = record {
  size = a.size;
  each = λ s m d. other_answered lines l s (get_or answers s d) (apart (l.by.session == s) refl m) (a.each s m d);
}
  where
    apart : {s : ℕ} (b : Bool) → (l.by.session == s) ≡ b → s < 64 → (l.by.session == s) ≡ false
    apart {s} true e m = absurd (past (subst (λ k. k < 64) (sym (eqb-true l.by.session s e)) m))
    apart {s} false e m = e

none_at : (answers : List Answers) (s : ℕ) (d : Answers) → AllByRecursion (λ (a : Answers). a ≡ record { commit = false; abort = false }) answers → s < length answers → get_or answers s d ≡ record { commit = false; abort = false }
none_at [] s d a l = absurd (omega arith)
none_at (x ∷ answers) zero d a l = a.0
none_at (x ∷ answers) (suc s) d a l = none_at answers s d a.1 (omega arith)

pub none_noted : (answers : List Answers) → length answers ≡ 64 → AllByRecursion (λ (a : Answers). a ≡ record { commit = false; abort = false }) answers → AreAnswers [] answers
none_noted answers size a = record {
  size = size;
  each = λ s l d. subst (IsAnswered [] s) (sym (none_at answers s d a (omega arith))) (record { commit = refl; abort = refl });
}

pub none_more : (before : List Line) (answers : List Answers) → AreAnswers before answers → AreAnswers (before ++ []) answers
none_more before answers a = subst (λ (t : List Line). AreAnswers t answers) (sym (append-nil before)) a

pub step_more : (steps : List Step) (i : ℕ) (s : Step) (answers : List Answers) → i < length steps → s ≡ get_or steps i s → AreAnswers (flat_map lines_in (take i steps) ++ lines_in s) answers → AreAnswers (flat_map lines_in (take (i + 1) steps)) answers
step_more steps i s answers l is a =
    let more = take_more steps i s l ∙ ap (λ (x : Step). take i steps ++ x ∷ []) (sym is) in
    subst (λ (t : List Line). AreAnswers t answers) (flat_map_more lines_in [] (take i steps) s ∙ ap (flat_map lines_in) (sym more)) a

pub written_back : (n : ℕ) (xs ys : List Answers) → length xs ≡ length ys → n ≡ length ys → take n (xs ++ drop (length xs) ys) ≡ xs
written_back n xs ys same is =
    ap (λ k. take k (xs ++ drop (length xs) ys)) (is ∙ sym same) ∙ ap (λ (t : List Answers). take (length xs) (xs ++ t)) (drop_all (length xs) ys (omega (arith, same))) ∙ ap (take (length xs)) (append-nil xs) ∙ take_all (length xs) xs (omega arith)
