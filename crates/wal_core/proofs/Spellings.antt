-- A volume opens to a history exactly where its bytes are batches of spelled records.
use Rattle.std.proofs.Common.{◌≡◌, inl, inr, ℕ, zero, suc, ◌+◌, ◌<◌, ◌≤◌, ◌^◌, Bool, true, false, cond, eqb, leb, ltb, ◌&&◌, List, [], ◌∷◌, ◌++◌, length, take, drop, slice_index, Option, Some, None, Result, Ok, refl, sym, ◌∙◌, ap, subst, append_assoc, arith}
use Rattle.std.specs.List.{AllByRecursion}
use Rattle.std.proofs.lemmas.Bool.{ltb-false, le-ltb, eq-eqb, ne_eqb, lt-leb, cases_eq}
use Rattle.std.proofs.lemmas.List.{length-append, length-take, length-drop, take-append-drop, drop-append-le, drop-take, drop-drop, take_at, drop_at}
use Rattle.tx_events.specs.declared.record.Rec.{Rec}
use Rattle.disk_core.specs.Volume.{Volume}
use Rattle.wal_records.specs.Spelling.{rec_bytes, IsLawful}
use Rattle.wal_records.specs.Reading.{◌>>=◌, rec_at}
use Rattle.wal_records.specs.Numbers.{le_bytes}
use Rattle.wal_records.proofs.Fields.{IsBytes, IsBytes-drop, IsBytes-take, bind_some, length-le_bytes}
use Rattle.wal_records.proofs.Records.{rec_takes}
use Rattle.wal_core.specs.Opening.{History, Walked, walk, walked, BeginsOpen, batch_bytes, batches_bytes, may_follow, with_rec, joined, recs_in, recs_of, first_number, began, with_body, going_on, judged, is_new, opened_as, opened}
use Rattle.wal_core.specs.Log.{bytes_of}
use Rattle.wal_core.specs.Laws.{FirstStays}
use Rattle.wal_core.specs.Spelled.{all_of, bodies_of, IsSpelled, IsHistoryOf, OpensExactly}
use Rattle.wal_core.proofs.Walks.{walked_to, walk_open, length-batch_bytes, batch_in_front, judged_none, judged_cons, onward}
use Rattle.wal_core.proofs.Scanning.{walk_shut}
use Rattle.wal_core.proofs.Rests.{RestsAs, walk_rests}
use Rattle.wal_core.proofs.Append.{with_body-bytes}
use Rattle.wal_core.proofs.Starts.{under_test, not_under, parts_of, fits_all}

some_is : (h x : History) → Some h ≡ Some x → h ≡ x
some_is h x e = cc

-- ---- records joined in two parts

joined_parts : (xs ys : List Rec) (h : History) → joined h (xs ++ ys) ≡ (joined h xs >>= λ k. joined k ys)
joined_parts [] ys h = refl
joined_parts (r ∷ xs) ys h = by_test (may_follow h r) (joined (with_rec h r) xs) (joined (with_rec h r) (xs ++ ys)) (joined_parts xs ys (with_rec h r))
  where
    by_test : (b : Bool) (p q : Option History) → q ≡ (p >>= λ k. joined k ys) → cond b q None ≡ (cond b p None >>= λ k. joined k ys)
    by_test true p q e = e
    by_test false p q e = refl

joined_then : (xs ys : List Rec) (h k x : History) → joined h xs ≡ Some k → joined k ys ≡ Some x → joined h (xs ++ ys) ≡ Some x
joined_then xs ys h k x e f = joined_parts xs ys h ∙ ap (λ (o : Option History). o >>= λ k. joined k ys) e ∙ f

joined_first : (recs : List Rec) (h x : History) → joined h recs ≡ Some x → h.first ≡ x.first
joined_first [] h x e = ap (λ (y : History). y.first) (some_is h x e)
joined_first (r ∷ recs) h x e = joined_first recs (with_rec h r) x (under_test (may_follow h r) (joined (with_rec h r) recs) x e)

pub first_stays : FirstStays
first_stays gate h x body e = let r = bind_some (recs_of body) (joined h) x e in sym (joined_first r.0 h x r.2)

-- ---- the records of a body

abbrev AllLawful : List Rec → Type 0
AllLawful recs = AllByRecursion IsLawful recs

some_recs : (a b : List Rec) → Some a ≡ Some b → a ≡ b
some_recs a b e = cc

in_spelled : (n : ℕ) (bytes : List ℕ) (recs : List Rec) → IsBytes bytes → recs_in n bytes ≡ Some recs → (bytes ≡ bytes_of recs) × AllLawful recs
unfolding recs_in
in_spelled n [] recs fit e = let none : [] ≡ recs = some_recs [] recs e in (ap bytes_of none, subst AllLawful none tt)
in_spelled zero (b ∷ bytes) recs fit e = absurd cc
in_spelled (suc n) (b ∷ bytes) recs fit e =
    let f = bind_some (rec_at (b ∷ bytes)) (λ first. recs_in n first.1 >>= λ others. Some (first.0 ∷ others)) recs e in
    let o = bind_some (recs_in n f.0.1) (λ others. Some (f.0.0 ∷ others)) recs f.2 in
    let t = rec_takes (b ∷ bytes) f.0 fit f.1 in
    let more = in_spelled n f.0.1 o.0 t.0.rest_fits o.1 in
    let is : f.0.0 ∷ o.0 ≡ recs = some_recs (f.0.0 ∷ o.0) recs o.2 in
    (t.0.parts ∙ ap (λ (l : List ℕ). rec_bytes f.0.0 ++ l) more.0 ∙ ap bytes_of is, subst AllLawful is (t.1, more.1))

-- ---- from batches that were judged

body_fits : (body rest : List ℕ) → IsBytes (batch_bytes body ++ rest) → IsBytes body
body_fits body rest fit =
    let back : drop 5 (batch_bytes body ++ rest) ≡ body ++ rest = ap (drop 5) (batch_in_front body rest) ∙ drop_at (le_bytes 4 (length body)) (body ++ rest) 4 (length-le_bytes 4 (length body)) in
    subst IsBytes (take_at body rest (length body) refl) (IsBytes-take (length body) (body ++ rest) (subst IsBytes back (IsBytes-drop 5 (batch_bytes body ++ rest) fit)))

rest_fits : (body rest : List ℕ) → IsBytes (batch_bytes body ++ rest) → IsBytes rest
rest_fits body rest fit = subst IsBytes (drop_at (batch_bytes body) rest (length (batch_bytes body)) refl) (IsBytes-drop (length (batch_bytes body)) (batch_bytes body ++ rest) fit)

pub record Came (bodies : List (List ℕ)) (h x : History) : Type 0 where
  pub batches : List (List Rec)
  pub bodies_are : bodies ≡ bodies_of batches
  pub lawful : AllByRecursion AllLawful batches
  pub joins : joined h (all_of batches) ≡ Some x

abbrev judged_to : Option History → Result (Option History) ℕ
judged_to h = Ok h

judged_is : (h k : Option History) → judged_to h ≡ judged_to k → h ≡ k
judged_is h k e = cc

no_history : (x : History) → None ≡ Some x → ⊥
no_history x e = cc

came_on : (bodies : List (List ℕ)) (at : ℕ) (h x : History) → IsBytes (batches_bytes bodies) → judged bodies at (Some h) ≡ Ok (Some x) → Came bodies h x
came_on [] at h x fit e = record { batches = []; bodies_are = refl; lawful = tt; joins = judged_is (Some h) (Some x) (sym (judged_none at (Some h)) ∙ e) }
came_on (b ∷ bodies) at h x fit e =
    let o = onward at (with_body at (Some h) b) (judged bodies (at + (5 + length b))) (Some x) (sym (judged_cons b bodies at (Some h)) ∙ e) in
    let r = bind_some (recs_of b) (joined h) o.0 o.1 in
    let s = in_spelled (length b) b r.0 (body_fits b (batches_bytes bodies) fit) r.1 in
    let more : Came bodies o.0 x = came_on bodies (at + (5 + length b)) o.0 x (rest_fits b (batches_bytes bodies) fit) o.2 in
    record {
      batches = r.0 ∷ more.batches;
      bodies_are = (λ i. s.0 i ∷ more.bodies_are i);
      lawful = (s.1, more.lawful);
      joins = joined_then r.0 (all_of more.batches) h o.0 x r.2 more.joins;
    }

pub record CameFirst (bodies : List (List ℕ)) (at : ℕ) (x : History) : Type 0 where
  pub batches : List (List Rec)
  pub bodies_are : bodies ≡ bodies_of batches
  pub lawful : AllByRecursion AllLawful batches
  pub history : IsHistoryOf at batches x

came_first : (bodies : List (List ℕ)) (at : ℕ) (x : History) → IsBytes (batches_bytes bodies) → judged bodies at None ≡ Ok (Some x) → CameFirst bodies at x
came_first [] at x fit e = absurd (no_history x (judged_is None (Some x) (sym (judged_none at None) ∙ e)))
came_first (b ∷ bodies) at x fit e =
    let o = onward at (with_body at None b) (judged bodies (at + (5 + length b))) (Some x) (sym (judged_cons b bodies at None) ∙ e) in
    let r = bind_some (recs_of b) (λ recs. first_number recs >>= λ number. cond (ltb at number) None (joined (began number) recs)) o.0 o.1 in
    let f = bind_some (first_number r.0) (λ number. cond (ltb at number) None (joined (began number) r.0)) o.0 r.2 in
    let u = not_under (ltb at f.0) (joined (began f.0) r.0) o.0 f.2 in
    let s = in_spelled (length b) b r.0 (body_fits b (batches_bytes bodies) fit) r.1 in
    let more : Came bodies o.0 x = came_on bodies (at + (5 + length b)) o.0 x (rest_fits b (batches_bytes bodies) fit) o.2 in
    let whole : joined (began f.0) (r.0 ++ all_of more.batches) ≡ Some x = joined_then r.0 (all_of more.batches) (began f.0) o.0 x u.1 more.joins in
    let same : f.0 ≡ x.first = joined_first (r.0 ++ all_of more.batches) (began f.0) x whole in
    record {
      batches = r.0 ∷ more.batches;
      bodies_are = (λ i. s.0 i ∷ more.bodies_are i);
      lawful = (s.1, more.lawful);
      history = record {
        starts = f.1 ∙ ap (λ (n : ℕ). Some n) same;
        low = omega (arith, ltb-false at f.0 u.0, same);
        joins = subst (λ (n : ℕ). joined (began n) (r.0 ++ all_of more.batches) ≡ Some x) same whole;
      };
    }

opens_spelled : (v : Volume) (h : History) (gate : ℕ) → IsBytes (drop v.start v.bytes) → opened v ≡ Ok (record { history = Some h; gate = gate }) → (batches : List (List Rec)) × (IsSpelled v batches gate × IsHistoryOf v.start batches h)
opens_spelled v h gate fit e =
    let w : Walked = walked v in let xs : List ℕ = drop v.start v.bytes in
    let p = parts_of v h gate e in
    let rests : RestsAs w xs = walk_rests (length xs + 1) xs fit (omega arith) p.whole in
    let came : CameFirst w.bodies v.start h = came_first w.bodies v.start h (subst IsBytes rests.front (IsBytes-take w.reach xs fit)) p.judged_is in
    let place : gate ≡ v.start + w.reach = p.gate_is in
    let some : 0 < w.reach = positive w.reach xs w.bodies (ap length rests.front) (omega (arith, length-take w.reach xs, rests.within)) p.judged_is in (
      came.batches,
      (
        record {
          begins = omega (arith, place);
          within = omega (arith, place, rests.within, length-drop v.start v.bytes, some);
          front = ap (λ (k : ℕ). drop v.start (take k v.bytes)) place ∙ drop-take v.start w.reach v.bytes ∙ rests.front ∙ ap batches_bytes came.bodies_are;
          lawful = came.lawful;
          few = subst (AllByRecursion (λ (b : List ℕ). length b < 2 ^ 32)) came.bodies_are rests.fits;
          closed = λ opens. rests.closed (subst BeginsOpen (ap (λ (k : ℕ). drop k v.bytes) place ∙ sym (drop-drop w.reach v.start v.bytes)) opens);
        },
        came.history,
      ),
    )
  where
    positive : (reach : ℕ) (xs : List ℕ) (bodies : List (List ℕ)) → length (take reach xs) ≡ length (batches_bytes bodies) → length (take reach xs) ≡ reach → judged bodies v.start None ≡ Ok (Some h) → 0 < reach
    positive reach xs [] long same is = absurd (no_history h (judged_is None (Some h) (sym (judged_none v.start None) ∙ is)))
    positive reach xs (b ∷ bodies) long same is = omega (arith, long, same, length-append (batch_bytes b) (batches_bytes bodies), length-batch_bytes b)

-- ---- from batches that are spelled

walk_spelled : (bodies : List (List ℕ)) (n : ℕ) (tail : List ℕ) → AllByRecursion (λ b. length b < 2 ^ 32) bodies → (BeginsOpen tail → ⊥) → length bodies < n → walk n (batches_bytes bodies ++ tail) ≡ walked_to bodies
walk_spelled bodies zero tail fits shut enough = absurd (omega arith)
walk_spelled [] (suc n) tail fits shut enough = walk_shut (suc n) tail shut
walk_spelled (b ∷ bodies) (suc n) tail fits shut enough =
    let rest : List ℕ = batches_bytes bodies ++ tail in
    let split : (batch_bytes b ++ batches_bytes bodies) ++ tail ≡ batch_bytes b ++ rest = append_assoc (batch_bytes b) (batches_bytes bodies) tail in
    let so_far : walk n rest ≡ walked_to bodies = walk_spelled bodies n tail fits.1 shut (omega arith) in
    let size : length (batch_bytes b ++ batches_bytes bodies) ≡ 5 + length b + length (batches_bytes bodies) = omega (arith, length-append (batch_bytes b) (batches_bytes bodies), length-batch_bytes b) in
    ap (walk (suc n)) split ∙ walk_open n b rest fits.0
    ∙ ap (λ (w : Walked). record { bodies = b ∷ w.bodies; reach = 5 + length b + w.reach; whole = w.whole }) so_far
    ∙ ap (λ (k : ℕ). record { bodies = b ∷ bodies; reach = k; whole = true }) (sym size)

judged_on : (batches : List (List Rec)) (at : ℕ) (h x : History) → AllByRecursion AllLawful batches → joined h (all_of batches) ≡ Some x → judged (bodies_of batches) at (Some h) ≡ Ok (Some x)
judged_on [] at h x lawful e = judged_none at (Some h) ∙ ap judged_to e
judged_on (b ∷ batches) at h x lawful e =
    let k = bind_some (joined h b) (λ k. joined k (all_of batches)) x (sym (joined_parts b (all_of batches) h) ∙ e) in
    let here : with_body at (Some h) (bytes_of b) ≡ Some k.0 = with_body-bytes at (Some h) b lawful.0 ∙ k.1 in
    judged_cons (bytes_of b) (bodies_of batches) at (Some h)
    ∙ ap (λ (o : Option History). going_on at o (judged (bodies_of batches) (at + (5 + length (bytes_of b))))) here
    ∙ judged_on batches (at + (5 + length (bytes_of b))) k.0 x lawful.1 k.2

judged_all : (batches : List (List Rec)) (at : ℕ) (x : History) → AllByRecursion AllLawful batches → IsHistoryOf at batches x → judged (bodies_of batches) at None ≡ Ok (Some x)
judged_all [] at x lawful history = absurd (no history.starts)
  where
    no : None ≡ Some x.first → ⊥
    no e = cc
judged_all (b ∷ batches) at x lawful history =
    let k = bind_some (joined (began x.first) b) (λ k. joined k (all_of batches)) x (sym (joined_parts b (all_of batches) (began x.first)) ∙ history.joins) in
    let low : ltb at x.first ≡ false = le-ltb at x.first history.low in
    let here : with_body at None (bytes_of b) ≡ Some k.0 =
    with_body-bytes at None b lawful.0 ∙ ap (λ (o : Option ℕ). o >>= λ number. cond (ltb at number) None (joined (began number) b)) history.starts
    ∙ ap (λ (t : Bool). cond t None (joined (began x.first) b)) low ∙ k.1 in
    judged_cons (bytes_of b) (bodies_of batches) at None
    ∙ ap (λ (o : Option History). going_on at o (judged (bodies_of batches) (at + (5 + length (bytes_of b))))) here
    ∙ judged_on batches (at + (5 + length (bytes_of b))) k.0 x lawful.1 k.2

length-bodies : (bodies : List (List ℕ)) → length bodies ≤ length (batches_bytes bodies)
length-bodies [] = omega arith
length-bodies (b ∷ bodies) = omega (arith, length-bodies bodies, length-append (batch_bytes b) (batches_bytes bodies), length-batch_bytes b)

begins_with : (b : List ℕ) (rest : List ℕ) → slice_index (batch_bytes b ++ rest) 0 ≡ 1
unfolding batch_bytes
begins_with b rest = refl

old_if : (v : Volume) (b rest : List ℕ) → drop v.start v.bytes ≡ batch_bytes b ++ rest → is_new v ≡ false
old_if v b rest is = elim (cases_eq v.start 0) [
  | inr later ↦ let no : eqb v.start 0 ≡ false = ne_eqb v.start 0 later in rw no refl
  | inl zero_start ↦
      let whole : v.bytes ≡ batch_bytes b ++ rest = ap (λ (k : ℕ). drop k v.bytes) (sym zero_start) ∙ is in
      let first : slice_index v.bytes 0 ≡ 1 = ap (λ (l : List ℕ). slice_index l 0) whole ∙ begins_with b rest in
      let open_here : eqb (slice_index v.bytes 0) 1 ≡ true = eq-eqb (slice_index v.bytes 0) 1 first in
      let long : leb (length v.bytes) 1 ≡ false = lt-leb (length v.bytes) 1 (omega (arith, ap length whole, length-append (batch_bytes b) rest, length-batch_bytes b)) in
      rw (open_here, long) (and_no (eqb v.start 0))
]
  where
    and_no : (x : Bool) → (x && false) ≡ false
    and_no true = refl
    and_no false = refl

old_spelled : (v : Volume) (batches : List (List Rec)) (tail : List ℕ) (x : History) → IsHistoryOf v.start batches x → drop v.start v.bytes ≡ batches_bytes (bodies_of batches) ++ tail → is_new v ≡ false
old_spelled v [] tail x history is = absurd (no history.starts)
  where
    no : None ≡ Some x.first → ⊥
    no e = cc
old_spelled v (b ∷ batches) tail x history is = old_if v (bytes_of b) (batches_bytes (bodies_of batches) ++ tail) (is ∙ append_assoc (batch_bytes (bytes_of b)) (batches_bytes (bodies_of batches)) tail)

spelled_opens : (v : Volume) (h : History) (gate : ℕ) (batches : List (List Rec)) → IsSpelled v batches gate → IsHistoryOf v.start batches h → opened v ≡ Ok (record { history = Some h; gate = gate })
unfolding opened
spelled_opens v h gate batches spelled history =
    let bodies : List (List ℕ) = bodies_of batches in let tail : List ℕ = drop gate v.bytes in
    let whole : drop v.start v.bytes ≡ batches_bytes bodies ++ tail =
    ap (drop v.start) (sym (take-append-drop gate v.bytes)) ∙ drop-append-le v.start (take gate v.bytes) (drop gate v.bytes) (omega (arith, length-take gate v.bytes, spelled.begins, spelled.within))
    ∙ ap (λ (l : List ℕ). l ++ tail) spelled.front in
    let enough : length bodies < length (batches_bytes bodies ++ tail) + 1 = omega (arith, length-bodies bodies, length-append (batches_bytes bodies) tail) in
    let walks : walked v ≡ walked_to bodies = ap (λ (l : List ℕ). walk (length l + 1) l) whole ∙ walk_spelled bodies (length (batches_bytes bodies ++ tail) + 1) tail spelled.few spelled.closed enough in
    let place : v.start + length (batches_bytes bodies) ≡ gate = omega (arith, ap length spelled.front, length-drop v.start (take gate v.bytes), length-take gate v.bytes, spelled.begins, spelled.within) in
    ap (λ (w : Walked). cond (is_new v) (Ok (record { history = None; gate = 0 })) (opened_as v.start w (judged w.bodies v.start None))) walks
    ∙ ap (λ (b : Bool). cond b (Ok (record { history = None; gate = 0 })) (opened_as v.start (walked_to bodies) (judged bodies v.start None))) (old_spelled v batches tail h history whole)
    ∙ ap (opened_as v.start (walked_to bodies)) (judged_all batches v.start h spelled.lawful history)
    ∙ ap (λ (k : ℕ). Ok (record { history = Some h; gate = k })) place

pub opens_exactly : OpensExactly
opens_exactly v h gate fit = (opens_spelled v h gate (fits_all (drop v.start v.bytes) fit), λ s. spelled_opens v h gate s.0 s.1.0 s.1.1)
