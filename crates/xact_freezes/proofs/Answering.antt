-- A freeze may be answered so.
use Rattle.std.proofs.Common.{◌≡◌, inl, inr, ℕ, ◌-◌, ◌≤◌, ◌<◌, Bool, List, [], ◌∷◌, ◌++◌, None, Some, drop, take, take_all, length, refl, sym, ap, subst, ◌∙◌, arith}
use Rattle.std.specs.List.{AllByRecursion, slice_get}
use Rattle.std.proofs.lemmas.List.{take_at}
use Rattle.notes.specs.Lists.{Grows}
use Rattle.notes.proofs.Growing.{begins_length}
use Rattle.tx_events.proofs.ListSteps.{all_weaker}
use Rattle.tx_events.proofs.PlaceLemmas.{last_at, slice_get-grows, take-grows}
use Rattle.tx_events.specs.Ids.{low_half}
use Rattle.tx_events.specs.Multis.{multi_by, next_made, oldest_multi, pin_limit}
use Rattle.tx_events.specs.declared.event.By.{By}
use Rattle.tx_events.specs.declared.multi.MultiEvent.{MultiEvent}
use Rattle.tx_events.specs.declared.multi.MultiEvent.TheVariants as multis
use Rattle.tx_events.specs.declared.refusal.Lock.TheVariants as locks
use Rattle.tx_events.specs.declared.refusal.Refusal.{Refusal}
use Rattle.tx_events.specs.declared.refusal.Refusal.TheVariants as refusals
use Rattle.tx_model.specs.declared.command.Command.TheVariants as commands
use Rattle.tx_model.specs.declared.reply.Reply.TheVariants as replies
use Rattle.tx_model.specs.Replies.{alone}
use Rattle.tx_model.specs.Stance.{Stance}
use Rattle.life_law.specs.MultiLines.{HasMultiEvents, IsPinnedOrNext}
use Rattle.life_law.specs.MultiPlaces.{MayReadMultis}
use Rattle.life_law.specs.MultiReplies.{IsMultiNumber}
use Rattle.life_law.specs.Refused.{by_standing}
use Rattle.multi_store.specs.declared.answers.Held.{Held}
use Rattle.tx_core.specs.declared.entry.Entry.{Entry}
use Rattle.tx_core.specs.declared.entry.Start.{Start}
use Rattle.tx_core.specs.Entries.{history}
use Rattle.tx_core.specs.MultiEntries.{multi_history}
use Rattle.tx_core.proofs.Rising.{multis_grow}
use Rattle.engine_parts.specs.declared.session.Stage.{Stage}
use Rattle.engine_parts.specs.Answers.{MayAnswerAny}
use Rattle.engine_parts.specs.Calls.{IsHeldBehind}
use Rattle.engine_parts.specs.MultiAnswers.{WasNotYet}
use Rattle.engine_parts.proofs.Leaving.{grows_then}
use Rattle.multi_sections.specs.Pinnings.{IsPinned}
use Rattle.multi_sections.specs.Raisings.{IsNotFrozen}
use Rattle.xact_freezes.specs.Freezes.{IsNotFrozenPinned, WasUnset}

-- the events and the answer are lawful, and it is none by how the session stands
pub record IsFit (tells : Bool) (start : Start) (begun lists : List (List Entry)) (by : By) (s : Stance) (stage now : Stage) (multi : ℕ) (r : Refusal) (xs : List MultiEvent) : Type 0 where
  pub events : HasMultiEvents start.base (history lists) (alone (history begun) (history lists)) (multi_history lists) by (commands.MultiFreeze multi) (replies.Refused r) xs
  pub answer : MayAnswerAny tells start begun lists by s stage (commands.MultiFreeze multi) (replies.Refused r)
  pub free : by_standing (replies.Refused r) ≡ None
  pub held : IsHeldBehind start lists (commands.MultiFreeze multi) (replies.Refused r) now

-- the end of the history may be read
reads_end : (h h' : List MultiEvent) (by : By) → length h ≤ length h' → MayReadMultis h' (record { from = length h; to = length h' }) by (length h')
reads_end h h' by le = record {
  not_before = le;
  not_past = omega arith;
  behind = subst (AllByRecursion (λ e. (multi_by e).session ≡ by.session → by.command < (multi_by e).command)) (sym (ap (drop (length h')) (take_all (length h') h' (omega arith)) ∙ drop_all h')) tt;
}
  where
    drop_all : (xs : List MultiEvent) → drop (length xs) xs ≡ []
    drop_all [] = refl
    drop_all (x ∷ xs) = drop_all xs

longer : (lists more : List (List Entry)) → Grows lists more → length (multi_history lists) ≤ length (multi_history more)
longer lists more g = begins_length (multi_history lists) (multi_history more) (multis_grow lists more g)

-- ---- a freeze that doesn't begin

pub not_begun : (tells : Bool) (start : Start) (begun lists : List (List Entry)) (by : By) (s : Stance) (stage now : Stage) (multi : ℕ) (r : Refusal) → Grows begun lists → IsNotFrozen start.base (multi_history lists) multi r → IsFit tells start begun lists by s stage now multi r []
not_begun tells start begun lists by s stage now multi (refusals.Backward told) g i = record {
  events = refl;
  answer = record {
    place = length (multi_history lists);
    read = reads_end (multi_history begun) (multi_history lists) by (longer begun lists g);
    now_is = i.0 ∙ ap (oldest_multi start.base.oldest_multi) (sym (take_all (length (multi_history lists)) (multi_history lists) (omega arith)));
    older = i.1;
  };
  free = refl;
  held = tt;
}
not_begun tells start begun lists by s stage now multi (refusals.Held limit) g i = record {
  events = inl refl;
  answer = record {
    place = length (multi_history lists);
    read = reads_end (multi_history begun) (multi_history lists) (record by { command = by.command - 1 }) (longer begun lists g);
    limit_is = i.0 ∙ ap (pin_limit start.base.multi) (sym (take_all (length (multi_history lists)) (multi_history lists) (omega arith)));
    past = i.1;
  };
  free = refl;
  held = tt;
}
not_begun tells start begun lists by s stage now multi refusals.Memory g i = record { events = inl refl; answer = refl; free = refl; held = tt }
not_begun tells start begun lists by s stage now multi r g i = absurd i

-- ---- where the session pinned it

pub record PinStands (lists : List (List Entry)) (before : List MultiEvent) (event : MultiEvent) : Type 0 where
  pub stands : slice_get (multi_history lists) (length before) ≡ Some event
  pub front : take (length before) (multi_history lists) ≡ before

pub pin_stands : (lists more : List (List Entry)) (before : List MultiEvent) (event : MultiEvent) → Grows lists more → multi_history lists ≡ before ++ event ∷ [] → PinStands more before event
pin_stands lists more before event g split =
    let b = multis_grow lists more g in
    let here : slice_get (multi_history lists) (length before) ≡ Some event = ap (λ (h : List MultiEvent). slice_get h (length before)) split ∙ last_at before event in record {
      stands = ap (λ (h : List MultiEvent). slice_get h (length before)) (sym b.1) ∙ slice_get-grows (multi_history lists) b.0 event (length before) here;
      front = ap (take (length before)) (sym b.1) ∙ (take-grows (multi_history lists) b.0 event (length before) here ∙ (ap (take (length before)) split ∙ take_at before (event ∷ []) (length before) refl));
    }

module _ (tells : Bool) (start : Start) (begun mid lists : List (List Entry)) (by : By) (s : Stance) (stage now : Stage) (h : Held) (before : List MultiEvent) (first : Grows begun mid) (second : Grows mid lists) (split : multi_history mid ≡ before ++ multis.Hold by h.multi ∷ []) (pinned : IsPinned start.base before (low_half h.multi) h) where
  abbrev both_events : List MultiEvent
  both_events = multis.Hold by h.multi ∷ multis.Unhold by h.multi ∷ []

  was_not_yet : WasUnset start mid lists h.multi → WasNotYet start begun lists by h.multi
  was_not_yet w =
      let p = pin_stands mid w.seen before (multis.Hold by h.multi) w.from split in record {
        seen = w.seen;
        from = grows_then begun mid w.seen first w.from;
        upto = w.upto;
        pinned = length before;
        asked = h.multi;
        stands = p.stands;
        from_asked = omega arith;
        below = subst (λ (t : List MultiEvent). h.multi < next_made start.base.multi t) (sym p.front) pinned.known.given;
        unset = w.none.unset;
        unrecorded = λ below. w.none.unrecorded;
      }

  pub not_pinned_so : (r : Refusal) → IsMultiNumber h.multi → 1 ≤ by.command → IsNotFrozenPinned tells start by mid lists h.multi r → IsFit tells start begun lists by s stage now h.multi r both_events
  not_pinned_so (refusals.NotYet told) number some i = record {
    events = refl;
    answer = (subst IsMultiNumber (sym i.0) number, λ t. subst (WasNotYet start begun lists by) (sym i.0) (was_not_yet (i.1 t.0 t.2)));
    free = refl;
    held = tt;
  }
  not_pinned_so (refusals.Held limit) number some i = record {
    events = inr refl;
    answer = record {
      place = i.place;
      read = record {
        not_before = (let a = longer begun mid first in let b = i.from in omega (arith, a, b));
        not_past = i.upto;
        behind = subst (λ (t : List MultiEvent). AllByRecursion (λ e. (multi_by e).session ≡ by.session → by.command - 1 < (multi_by e).command) (drop i.place t)) (sym (take_all (length (multi_history lists)) (multi_history lists) (omega arith)))
            (all_weaker (λ (e : MultiEvent). (multi_by e).session ≡ by.session → by.command ≤ (multi_by e).command) (λ (e : MultiEvent). (multi_by e).session ≡ by.session → by.command - 1 < (multi_by e).command) (λ e k same. let le = k same in omega (arith, le, some)) (drop i.place (multi_history lists)) i.behind);
      };
      limit_is = i.limit_is;
      past = i.past;
    };
    free = refl;
    held = tt;
  }
  not_pinned_so (refusals.DiskFault (locks.Offsets bank)) number some i = record { events = refl; answer = (refl, i); free = refl; held = tt }
  not_pinned_so refusals.Memory number some i = record { events = inr refl; answer = refl; free = refl; held = tt }
  not_pinned_so r number some i = absurd i

  -- one that was raised was pinned
  pub pinned_then : IsPinnedOrNext start.base (multi_history lists) by h.multi
  pinned_then = inl (length before, (h.multi, (pin_stands mid lists before (multis.Hold by h.multi) second split).stands))

-- and the next one wasn't there to be pinned
pub next_then : (start : Start) (lists : List (List Entry)) (by : By) (multi offset : ℕ) (before : List MultiEvent) → multi_history lists ≡ before ++ multis.Raise by multi offset ∷ [] → multi ≡ next_made start.base.multi before → IsPinnedOrNext start.base (multi_history lists) by multi
next_then start lists by multi offset before split next =
    inr (
      length before,
      multi,
      offset,
      ap (λ (h : List MultiEvent). slice_get h (length before)) split ∙ last_at before (multis.Raise by multi offset),
      next ∙ ap (next_made start.base.multi) (sym (ap (take (length before)) split ∙ take_at before (multis.Raise by multi offset ∷ []) (length before) refl)),
    )
