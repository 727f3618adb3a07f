-- A log with one entry more in its list.
use Rattle.std.proofs.Common.{List, None, Option, Some, [], ap, append-nil, append_assoc, arith, inl, inr, length, length-append, map, refl, suc, sym, zero, ℕ, ⊎_elim, ◌+◌, ◌++◌, ◌-◌, ◌<◌, ◌∙◌, ◌∷◌, ◌≡◌, ◌≤◌, ◌⊎◌}
use Rattle.std.proofs.lemmas.List.{map-append, take-append-le}
use Rattle.std.proofs.lemmas.List.Elements.{filter_map-append}
use Rattle.std.specs.List.{cons_option, filter_map, slice_get}
use Rattle.tx_events.proofs.Membership.{contains_has, has_cases, has_contains, has_left, has_right}
use Rattle.tx_events.specs.After.{after_records}
use Rattle.tx_events.specs.declared.event.By.{By}
use Rattle.tx_events.specs.declared.record.Rec.{Rec}
use Rattle.tx_core.specs.declared.entry.Entry.{Entry}
use Rattle.tx_core.specs.declared.entry.Kind.{Kind}
use Rattle.tx_core.specs.declared.entry.Kind.TheVariants as kinds
use Rattle.tx_core.specs.declared.entry.LogCall.TheVariants as calls
use Rattle.tx_core.specs.declared.entry.Start.{Start}
use Rattle.tx_core.specs.Entries.{appended, recs_in}
use Rattle.recoverable.specs.Fit.{KeptLog}
use Rattle.recoverable.specs.Laws.{HasKind, LogOf}
use Rattle.recoverable.specs.LogSteps.{KeepsLog, LogGoesOn, with_record}
use Rattle.recoverable.specs.Volumes.{IsWholeAt}

recs_more : (es : List Entry) (e : Entry) (o : Option (By × Rec)) → appended e ≡ o → recs_in (es ++ e ∷ []) ≡ recs_in es ++ map (λ (r : By × Rec). r.1) (cons_option o [])
recs_more es e o is =
    ap (λ (t : List (By × Rec)). map (λ (r : By × Rec). r.1) t) (filter_map-append appended es (e ∷ []) ∙ ap (λ (o : Option (By × Rec)). filter_map appended es ++ cons_option o []) is)
    ∙ map-append (λ (r : By × Rec). r.1) (filter_map appended es) (cons_option o [])

module _ {A : Type 0} where
  -- what stands at a place of a list stands there in a longer one
  pub get_front : (xs ys : List A) (j : ℕ) → j < length xs → slice_get (xs ++ ys) j ≡ slice_get xs j
  get_front [] ys j lt = absurd (omega arith)
  get_front (x ∷ xs) ys zero lt = refl
  get_front (x ∷ xs) ys (suc j) lt = get_front xs ys j (omega arith)

module _ (start : Start) (es : List Entry) (log : KeptLog) (f : LogOf start es log) where
  -- what stands in the longer list stands in the list, or is the entry
  kinds_of : (e : Entry) (kind : Kind) → HasKind (es ++ e ∷ []) kind → HasKind es kind ⊎ (e.kind ≡ kind)
  kinds_of e kind h =
      let f : Entry = record { by = h.0; kind = kind } in
      ⊎_elim
      (λ old. inl (h.0, has_contains es (record { by = h.0; kind = kind }) old))
      (λ last. ⊎_elim (λ (q : e ≡ record { by = h.0; kind = kind }). inr (ap (λ (z : Entry). z.kind) q)) (λ none. absurd none) last)
      (has_cases es (e ∷ []) f (contains_has (es ++ e ∷ []) f h.1))

  kind_stays : (e : Entry) (kind : Kind) → HasKind es kind → HasKind (es ++ e ∷ []) kind
  kind_stays e kind h =
      let f : Entry = record { by = h.0; kind = kind } in
      (h.0, has_contains (es ++ e ∷ []) f (has_left es (e ∷ []) f (contains_has es f h.1)))

  long : length f.before ≤ length log.recs
  long = let all : length log.recs ≡ length f.before + length (recs_in es) = ap (λ (t : List Rec). length t) f.recs ∙ length-append f.before (recs_in es) in omega arith

  whole_more : (rec : Rec) (n : ℕ) → log.first ≤ n → n < start.from → IsWholeAt (with_record log rec) n
  whole_more rec n first lt counters stands =
      let within = long in let from = f.from in
      let here = sym (get_front log.recs (rec ∷ []) (n - log.first) (omega arith)) ∙ stands in
      ap (λ (t : List Rec). after_records log.base.counters t) (take-append-le (n + 1 - log.first) log.recs (rec ∷ []) (omega arith)) ∙ f.whole n first lt counters here

  keeps_log : KeepsLog start es log
  keeps_log = record {
    appends = λ by rec.
        let e : Entry = record { by = by; kind = kinds.Append rec } in
        let more : recs_in (es ++ e ∷ []) ≡ recs_in es ++ rec ∷ [] = recs_more es e (Some (by, rec)) refl in
        let count : length (log.recs ++ rec ∷ []) ≡ length log.recs + 1 = length-append log.recs (rec ∷ []) in
        let upto = f.upto in
        record {
          before = f.before;
          recs = ap (λ (t : List Rec). t ++ rec ∷ []) f.recs ∙ append_assoc f.before (recs_in es) (rec ∷ []) ∙ ap (λ (t : List Rec). f.before ++ t) (sym more);
          from = f.from;
          base = f.base;
          some = f.some;
          whole = whole_more rec;
          below = f.below;
          begun = f.begun;
          upto = omega arith;
          flushed = λ to h. ⊎_elim (f.flushed to) (λ (q : kinds.Append rec ≡ kinds.Flush to). absurd cc) (kinds_of e (kinds.Flush to) h);
        };
    flushes = λ by to low high.
        let e : Entry = record { by = by; kind = kinds.Flush to } in
        let same : recs_in (es ++ e ∷ []) ≡ recs_in es = recs_more es e None refl ∙ append-nil (recs_in es) in
        let begun = f.begun in
        record {
          before = f.before;
          recs = f.recs ∙ ap (λ (t : List Rec). f.before ++ t) (sym same);
          from = f.from;
          base = f.base;
          some = f.some;
          whole = f.whole;
          below = f.below;
          begun = omega arith;
          upto = high;
          flushed = λ upto h. ⊎_elim
              (λ old. let le = f.flushed upto old in omega arith)
              (λ (q : kinds.Flush to ≡ kinds.Flush upto). let z : to ≡ upto = cc in omega arith)
              (kinds_of e (kinds.Flush upto) h);
        };
    stays = λ e none never.
        let same : recs_in (es ++ e ∷ []) ≡ recs_in es = recs_more es e None none ∙ append-nil (recs_in es) in
        record {
          before = f.before;
          recs = f.recs ∙ ap (λ (t : List Rec). f.before ++ t) (sym same);
          from = f.from;
          base = f.base;
          some = f.some;
          whole = f.whole;
          below = f.below;
          begun = f.begun;
          upto = f.upto;
          flushed = λ to h. ⊎_elim (f.flushed to) (λ q. absurd (never to q)) (kinds_of e (kinds.Flush to) h);
        };
    kept_stays = λ e n.
        ⊎_elim inl (⊎_elim
        (λ h. inr (inl (kind_stays e (kinds.Forget n) h)))
        (λ (h : (count : ℕ) × HasKind es (kinds.LogFault (calls.Forget n) count)). inr (inr (h.0, kind_stays e (kinds.LogFault (calls.Forget n) h.0) h.1))));
    forgets = λ by n.
        let e : Entry = record { by = by; kind = kinds.Forget n } in
        inr (inl (by, has_contains (es ++ e ∷ []) e (has_right es (e ∷ []) e (inl refl))));
    forget_fails = λ by n count.
        let e : Entry = record { by = by; kind = kinds.LogFault (calls.Forget n) count } in
        inr (inr (count, (by, has_contains (es ++ e ∷ []) e (has_right es (e ∷ []) e (inl refl)))));
  }

pub log_goes_on : LogGoesOn
log_goes_on start es log f = keeps_log start es log f
