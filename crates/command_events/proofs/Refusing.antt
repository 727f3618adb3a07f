-- Which events a refused write has.
use Rattle.std.proofs.Common.{◌≡◌, ℕ, ◌≤◌, inl, inr, List, [], ◌∷◌, None, length, take, sym, ap, subst, ◌∙◌, arith}
use Rattle.std.specs.Prelude.{is_some}
use Rattle.std.proofs.lemmas.List.{length-take}
use Rattle.tx_events.specs.declared.event.By.{By}
use Rattle.tx_events.specs.declared.event.Event.{Event}
use Rattle.tx_events.specs.declared.refusal.Refusal.{Refusal}
use Rattle.tx_events.specs.declared.refusal.Refusal.TheVariants as refusals
use Rattle.tx_model.specs.declared.command.Command.TheVariants as commands
use Rattle.tx_model.specs.declared.reply.Reply.TheVariants as replies
use Rattle.tx_model.specs.CommandEvents.{HasEvents, MayHaveGiven, level_events}
use Rattle.tx_model.specs.Stance.{Stance, lacking, top_level}
use Rattle.report_law.specs.Kinds.{BeginAsTold}
use Rattle.command_events.specs.Told.{AreTold, all_given, most_given}
use Rattle.command_events.proofs.Longest.{begin_given, below_first, fewer_ids, first_top, given_longest, no_ids, take_shorter}

may_have : (refusal : Refusal) (wanted n : ℕ) → 1 ≤ n → n ≤ most_given refusal wanted → MayHaveGiven refusal wanted n
may_have refusals.NoTransaction wanted n some l = absurd (omega arith)
may_have refusals.CommitPending wanted n some l = absurd (omega arith)
may_have refusals.AbortPending wanted n some l = absurd (omega arith)
may_have refusals.UndoPending wanted n some l = absurd (omega arith)
may_have (refusals.DiskFault lock) wanted n some l = l
may_have refusal wanted n some l = omega arith

have_most : (refusal : Refusal) (wanted n : ℕ) → MayHaveGiven refusal wanted n → n ≤ most_given refusal wanted
have_most refusals.NoTransaction wanted n m = omega arith
have_most refusals.CommitPending wanted n m = omega arith
have_most refusals.AbortPending wanted n m = omega arith
have_most refusals.UndoPending wanted n m = omega arith
have_most (refusals.DiskFault lock) wanted n m = m
have_most refusal wanted n m = omega arith

most_wanted : (refusal : Refusal) (wanted : ℕ) → most_given refusal wanted ≤ wanted
most_wanted refusals.NoTransaction wanted = omega arith
most_wanted refusals.CommitPending wanted = omega arith
most_wanted refusals.AbortPending wanted = omega arith
most_wanted refusals.UndoPending wanted = omega arith
most_wanted (refusals.DiskFault lock) wanted = omega arith
most_wanted refusal wanted = omega arith

has_refused : (by : By) (s : Stance) (refusal : Refusal) (ids : List ℕ) (es : List Event) → length ids ≤ most_given refusal (lacking s.levels) → es ≡ level_events by None s.levels ids
    → HasEvents by s commands.Write (replies.Refused refusal) es
has_refused by s refusal [] es l is = inl (is ∙ no_ids by None s.levels)
has_refused by s refusal (id ∷ ids) es l is = inr (id ∷ ids, is, may_have refusal (lacking s.levels) (length (id ∷ ids)) (omega arith) l)

short_taken : (n : ℕ) (xs : List ℕ) → length (take n xs) ≤ n
short_taken n xs = omega (arith, length-take n xs)

longest_of : (by : By) (s : Stance) (refusal : Refusal) (own : List Event) (ids : List ℕ) → ids ≡ take (most_given refusal (lacking s.levels)) (all_given (is_some (top_level s.levels)) own)
    → (others : List Event) → HasEvents by s commands.Write (replies.Refused refusal) others → BeginAsTold others own → others ≡ take (length others) (level_events by None s.levels ids)
longest_of by s refusal own ids are others (inl none) b = none ∙ sym (ap (λ (t : List Event). take (length t) (level_events by None s.levels ids)) none)
longest_of by s refusal own ids are others (inr given) b =
    let mine = given.0 in
    let few : length mine ≤ most_given refusal (lacking s.levels) = have_most refusal (lacking s.levels) (length mine) given.2 in
    let fit = most_wanted refusal (lacking s.levels) in
    let first : mine ≡ take (length mine) (all_given (below_first None s.levels) own) =
    given_longest by None s.levels mine own (omega arith) (subst (λ (t : List Event). BeginAsTold t own) given.1 b) in
    let same : mine ≡ take (length mine) ids =
    first ∙ ap (λ b. take (length mine) (all_given b own)) (first_top s.levels)
    ∙ sym (take_shorter (length mine) (most_given refusal (lacking s.levels)) (all_given (is_some (top_level s.levels)) own) few) ∙ ap (take (length mine)) (sym are) in
    let events : others ≡ level_events by None s.levels (take (length mine) ids) = given.1 ∙ ap (level_events by None s.levels) same in
    events ∙ fewer_ids by None s.levels ids (length mine) ∙ ap (λ (t : List Event). take (length t) (level_events by None s.levels ids)) (sym events)

pub refused_told : (by : By) (s : Stance) (refusal : Refusal) (own : List Event) (ids : List ℕ) (es : List Event)
    → ids ≡ take (most_given refusal (lacking s.levels)) (all_given (is_some (top_level s.levels)) own) → es ≡ level_events by None s.levels ids
    → AreTold by s commands.Write (replies.Refused refusal) own es
refused_told by s refusal own ids es are is =
    let most = most_given refusal (lacking s.levels) in
    let short : length ids ≤ most = subst (λ (t : List ℕ). length t ≤ most) (sym are) (short_taken most (all_given (is_some (top_level s.levels)) own)) in
    record {
      has = has_refused by s refusal ids es short is;
      begin = subst (λ (t : List Event). BeginAsTold t own) (sym (is ∙ ap (level_events by None s.levels) (are ∙ ap (λ b. take most (all_given b own)) (sym (first_top s.levels))))) (begin_given by None s.levels most own);
      longest = λ others h b. longest_of by s refusal own ids are others h b ∙ ap (take (length others)) (sym is);
    }
