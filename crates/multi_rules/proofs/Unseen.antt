-- An id that was visible to a snapshot is so to the later ones: where a search for the first of them parts them.
use Rattle.std.proofs.Common.{◌≡◌, ℕ, ◌+◌, ◌<◌, ◌≤◌, List, length, take, true, false, Some, sym, ◌∙◌, arith, ⊎_elim}
use Rattle.std.specs.List.{slice_get}
use Rattle.std.proofs.lemmas.Bool.{cases_Bool, cases_lt, false≢true}
use Rattle.tx_events.specs.declared.event.Event.{Event}
use Rattle.tx_events.specs.declared.record.Counters.{Counters}
use Rattle.tx_events.specs.History.{IsLegal}
use Rattle.tx_events.specs.Visible.{is_visible}
use Rattle.multi_rules.specs.declared.taken.Taken.{Taken}
use Rattle.multi_rules.specs.Snapped.{AreFirst, AreInHistory}
use Rattle.multi_rules.specs.Telling.{IsUnseen}
use Rattle.history_places.proofs.Stays.{hidden_before}

module _ (base : Counters) (ids : List ℕ) (h : List Event) (id : ℕ) (taken : List Taken) where
  abbrev pub AllUnseen : ℕ → Type 0
  AllUnseen n = (i : ℕ) (t : Taken) → i < n → slice_get taken i ≡ Some t → is_visible ids (take t.place h) id ≡ false

  abbrev pub AllSeen : ℕ → Type 0
  AllSeen n = (i : ℕ) (t : Taken) → n ≤ i → slice_get taken i ≡ Some t → is_visible ids (take t.place h) id ≡ true

  pub seen_from : (middle : ℕ) (m : Taken) → IsLegal base h → AreInHistory (length h) taken → slice_get taken middle ≡ Some m → is_visible ids (take m.place h) id ≡ true → AllSeen middle
  seen_from middle m legal a at v i t l e = ⊎_elim
      (λ (y : is_visible ids (take t.place h) id ≡ true). y)
      (λ (n : is_visible ids (take t.place h) id ≡ false). absurd (false≢true (sym (hidden_before base ids h id m.place t.place legal (a.rising middle i m t l at e) n) ∙ v)))
      (cases_Bool (is_visible ids (take t.place h) id))

  pub unseen_upto : (middle : ℕ) (m : Taken) → IsLegal base h → AreInHistory (length h) taken → slice_get taken middle ≡ Some m → is_visible ids (take m.place h) id ≡ false → AllUnseen (middle + 1)
  unseen_upto middle m legal a at v i t l e = hidden_before base ids h id t.place m.place legal (a.rising i middle t m (omega arith) e at) v

  pub unseen_first : (from end : ℕ) → end ≤ length taken → from ≤ end → end ≤ from → AllUnseen from → AllSeen end → AreFirst (IsUnseen ids h id) taken from
  unseen_first from end bound l m front behind = record {
    within = omega arith;
    each = λ i t e. (
      λ n. ⊎_elim (λ (u : i < from). u) (λ (u : from ≤ i). absurd (false≢true (sym n ∙ behind i t (omega arith) e))) (cases_lt i from),
      λ u. front i t u e,
    );
  }
