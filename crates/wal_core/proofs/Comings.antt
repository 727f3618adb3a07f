-- Which counters the records of a log come to.
use Rattle.std.proofs.Common.{◌≡◌, ℕ, ◌+◌, Bool, true, false, cond, ltb, List, [], ◌∷◌, ◌++◌, length, Option, Some, None, Result, Ok, refl, sym, ◌∙◌, ap, subst, max, arith}
use Rattle.std.proofs.lemmas.Bool.{and_parts, eq-eqb}
use Rattle.std.proofs.lemmas.Grind.{fold-append}
use Rattle.tx_events.specs.declared.record.Rec.{Rec}
use Rattle.tx_events.specs.declared.record.Rec.TheVariants as records
use Rattle.tx_events.specs.After.{after_record, after_records}
use Rattle.wal_records.specs.Reading.{◌>>=◌}
use Rattle.wal_records.proofs.Fields.{bind_some}
use Rattle.wal_core.specs.BaseTest.{is_base_of}
use Rattle.wal_core.specs.Opening.{History, may_follow, number_fits, next_number, with_rec, joined, recs_of, first_number, began, no_counters, with_body, judged, walk, opened_bytes}
use Rattle.tx_events.specs.declared.record.Counters.{Counters}
use Rattle.tx_events.specs.Base.{IsBase}
use Rattle.wal_core.specs.LogContents.{ComesTo}
use Rattle.wal_core.specs.Laws.{CheckpointMayCome}
use Rattle.wal_core.proofs.BaseTests.{base_if}
use Rattle.wal_core.proofs.Walks.{judged_none, judged_cons, onward}
use Rattle.wal_core.proofs.Starts.{not_under, parts_by}

record Comes (h : History) : Type 0 where
  pub first : first_number h.recs ≡ Some h.first
  pub after : h.counters ≡ after_records no_counters h.recs
  pub base : is_base_of h.counters ≡ true

passed : (b : Bool) (p : Option History) (x : History) → cond b p None ≡ Some x → (b ≡ true) × (p ≡ Some x)
passed true p x e = (refl, e)
passed false p x e = absurd cc

some_is : (h x : History) → Some h ≡ Some x → h ≡ x
some_is h x e = cc

-- ---- one record more

first_stays : (recs more : List Rec) (n : ℕ) → first_number recs ≡ Some n → first_number (recs ++ more) ≡ Some n
first_stays [] more n e = absurd cc
first_stays (records.Checkpoint number counters ∷ recs) more n e = e
first_stays (records.Commit top subs ∷ recs) more n e = absurd cc
first_stays (records.Abort top subs ∷ recs) more n e = absurd cc
first_stays (records.Multi multi offset members ∷ recs) more n e = absurd cc
first_stays (records.Truncate oldest multi offset ∷ recs) more n e = absurd cc

comes_with : (h : History) (r : Rec) → Comes h → may_follow h r ≡ true → Comes (with_rec h r)
comes_with h r comes may = record {
  first = first_stays h.recs (r ∷ []) h.first comes.first;
  after = ap (λ c. after_record c r) comes.after ∙ sym (fold-append after_record no_counters h.recs (r ∷ []));
  base = (and_parts (number_fits (next_number h) r) (is_base_of (after_record h.counters r)) may).1;
}

comes_on : (recs : List Rec) (h x : History) → Comes h → joined h recs ≡ Some x → Comes x
comes_on [] h x comes e = subst Comes (some_is h x e) comes
comes_on (r ∷ recs) h x comes e =
    let p = passed (may_follow h r) (joined (with_rec h r) recs) x e in
    comes_on recs (with_rec h r) x (comes_with h r comes p.0) p.1

-- ---- the first records

first_alone : (r : Rec) (recs : List Rec) (n : ℕ) → first_number (r ∷ recs) ≡ Some n → first_number (r ∷ []) ≡ Some n
first_alone (records.Checkpoint number counters) recs n e = e
first_alone (records.Commit top subs) recs n e = absurd cc
first_alone (records.Abort top subs) recs n e = absurd cc
first_alone (records.Multi multi offset members) recs n e = absurd cc
first_alone (records.Truncate oldest multi offset) recs n e = absurd cc

comes_first : (recs : List Rec) (n : ℕ) (x : History) → first_number recs ≡ Some n → joined (began n) recs ≡ Some x → Comes x
comes_first [] n x first e = absurd cc
comes_first (r ∷ recs) n x first e =
    let p = passed (may_follow (began n) r) (joined (with_rec (began n) r) recs) x e in
    let one : Comes (with_rec (began n) r) = record {
      first = first_alone r recs n first;
      after = refl;
      base = (and_parts (number_fits (next_number (began n)) r) (is_base_of (after_record no_counters r)) p.0).1;
    } in
    comes_on recs (with_rec (began n) r) x one p.1

-- ---- batches

body_comes : (at : ℕ) (h : History) (body : List ℕ) (x : History) → Comes h → with_body at (Some h) body ≡ Some x → Comes x
body_comes at h body x comes e = let r = bind_some (recs_of body) (joined h) x e in comes_on r.0 h x comes r.2

body_comes_first : (at : ℕ) (body : List ℕ) (x : History) → with_body at None body ≡ Some x → Comes x
body_comes_first at body x e =
    let r = bind_some (recs_of body) (λ recs. first_number recs >>= λ number. cond (ltb at number) None (joined (began number) recs)) x e in
    let f = bind_some (first_number r.0) (λ number. cond (ltb at number) None (joined (began number) r.0)) x r.2 in
    let u = not_under (ltb at f.0) (joined (began f.0) r.0) x f.2 in
    comes_first r.0 f.0 x f.1 u.1

abbrev judged_to : Option History → Result (Option History) ℕ
judged_to h = Ok h

judged_is : (h k : Option History) → judged_to h ≡ judged_to k → h ≡ k
judged_is h k e = cc

no_history : (x : History) → None ≡ Some x → ⊥
no_history x e = cc

batches_come : (bodies : List (List ℕ)) (at : ℕ) (h x : History) → Comes h → judged bodies at (Some h) ≡ Ok (Some x) → Comes x
batches_come [] at h x comes e = subst Comes (some_is h x (judged_is (Some h) (Some x) (sym (judged_none at (Some h)) ∙ e))) comes
batches_come (b ∷ bodies) at h x comes e =
    let o = onward at (with_body at (Some h) b) (judged bodies (at + (5 + length b))) (Some x) (sym (judged_cons b bodies at (Some h)) ∙ e) in
    batches_come bodies (at + (5 + length b)) o.0 x (body_comes at h b o.0 comes o.1) o.2

all_come : (bodies : List (List ℕ)) (at : ℕ) (x : History) → judged bodies at None ≡ Ok (Some x) → Comes x
all_come [] at x e = absurd (no_history x (judged_is None (Some x) (sym (judged_none at None) ∙ e)))
all_come (b ∷ bodies) at x e =
    let o = onward at (with_body at None b) (judged bodies (at + (5 + length b))) (Some x) (sym (judged_cons b bodies at None) ∙ e) in
    batches_come bodies (at + (5 + length b)) o.0 x (body_comes_first at b o.0 o.1) o.2

pub opened_comes : (start : ℕ) (bytes : List ℕ) (h : History) (gate : ℕ) → opened_bytes start bytes ≡ Ok (record { history = Some h; gate = gate }) → ComesTo h.first h.recs (Some h.counters)
opened_comes start bytes h gate e =
    let w = walk (length bytes + 1) bytes in
    let c : Comes h = all_come w.bodies start h (parts_by start w (judged w.bodies start None) h gate e).judged_is in
    (c.first, (c.after, base_if h.counters c.base))

-- ---- a checkpoint of a log's own counters

same_after : (number : ℕ) (c : Counters) → after_record c (records.Checkpoint number c) ≡ c
same_after number c =
    λ i. record { next = same c.next i; oldest = same c.oldest i; multi = same c.multi i; offset = same c.offset i; oldest_multi = same c.oldest_multi i; oldest_offset = same c.oldest_offset i }
  where
    same : (n : ℕ) → max n n ≡ n
    same n = omega arith

pub checkpoint_may_come : CheckpointMayCome
checkpoint_may_come number counters lt are base = record {
  lawful = (lt, are);
  first = λ none. absurd cc;
  fits = eq-eqb number number refl;
  base = subst IsBase (sym (same_after number counters)) base;
}
