-- Records of a body join a history one by one.
use Rattle.std.proofs.Common.{◌≡◌, inl, inr, ℕ, zero, suc, ◌+◌, ◌-◌, ◌<◌, ◌≤◌, Bool, true, false, cond, ltb, eqb, List, [], ◌∷◌, length, max, Option, Some, None, refl, sym, ◌∙◌, ap, arith}
use Rattle.std.proofs.lemmas.Bool.{eq-eqb, ne_eqb, cases_eq, lt-ltb, le-ltb}
use Rattle.tx_events.specs.After.{after_record}
use Rattle.tx_events.specs.declared.record.Rec.{Rec}
use Rattle.tx_events.specs.declared.record.Rec.TheVariants as records
use Rattle.tx_events.specs.declared.record.Counters.{Counters}
use Rattle.wal_records.specs.declared.stop.Stop.{Stop}
use Rattle.wal_records.specs.declared.stop.Stop.TheVariants as stops
use Rattle.wal_records.specs.Reading.{◌>>=◌, Stops, rec_at}
use Rattle.wal_core.specs.BaseTest.{is_base_of}
use Rattle.wal_core.specs.Opening.{History, next_number, number_fits, may_follow, with_rec, joined, recs_in, first_number, began, with_body, no_counters}
use Rattle.wal_core.specs.SoFar.{begun, joins}

next_is : (n : ℕ) (bytes : List ℕ) (r : Rec) (rest : List ℕ) → rec_at bytes ≡ Some (r, rest) → recs_in (suc n) bytes ≡ (recs_in n rest >>= λ others. Some (r ∷ others))
unfolding recs_in rec_at
next_is n [] r rest e = absurd cc
next_is n (b ∷ bytes) r rest e = ap (λ (o : Option (Rec × List ℕ)). o >>= λ first. recs_in n first.1 >>= λ others. Some (first.0 ∷ others)) e

no_next : (n : ℕ) (b : ℕ) (bytes : List ℕ) → rec_at (b ∷ bytes) ≡ None → recs_in (suc n) (b ∷ bytes) ≡ None
unfolding recs_in
no_next n b bytes e = ap (λ (o : Option (Rec × List ℕ)). o >>= λ first. recs_in n first.1 >>= λ others. Some (first.0 ∷ others)) e

join_one : (h : History) (r : Rec) (o : Option (List Rec)) → may_follow h r ≡ true → ((o >>= λ others. Some (r ∷ others)) >>= joined h) ≡ (o >>= joined (with_rec h r))
join_one h r None may = refl
join_one h r (Some others) may = ap (λ (b : Bool). cond b (joined (with_rec h r) others) None) may

join_none : (h : History) (r : Rec) (o : Option (List Rec)) → may_follow h r ≡ false → ((o >>= λ others. Some (r ∷ others)) >>= joined h) ≡ None
join_none h r None may = refl
join_none h r (Some others) may = ap (λ (b : Bool). cond b (joined (with_rec h r) others) None) may

pub joins_go_on : (count i : ℕ) (bytes : List ℕ) (h h_2 : History) (r : Rec) (rest : List ℕ) (total : Option History) → i < count → rec_at bytes ≡ Some (r, rest) → may_follow h r ≡ true → h_2 ≡ with_rec h r
    → joins (count - i) bytes h ≡ total → joins (count - (i + 1)) rest h_2 ≡ total
joins_go_on count i bytes h h_2 r rest total lt e may is so_far =
    let k : count - i ≡ suc (count - (i + 1)) = omega arith in
    let one : joins (count - i) bytes h ≡ joins (count - (i + 1)) rest (with_rec h r) =
    ap (λ (n : ℕ). joins n bytes h) k ∙ ap (λ (o : Option (List Rec)). o >>= joined h) (next_is (count - (i + 1)) bytes r rest e) ∙ join_one h r (recs_in (count - (i + 1)) rest) may in
    ap (λ (x : History). joins (count - (i + 1)) rest x) is ∙ sym one ∙ so_far

pub joins_break : (count i : ℕ) (bytes : List ℕ) (h : History) (r : Rec) (rest : List ℕ) (total : Option History) → i < count → rec_at bytes ≡ Some (r, rest) → may_follow h r ≡ false
    → joins (count - i) bytes h ≡ total → total ≡ None
joins_break count i bytes h r rest total lt e may so_far =
    let k : count - i ≡ suc (count - (i + 1)) = omega arith in
    sym so_far ∙ ap (λ (n : ℕ). joins n bytes h) k ∙ ap (λ (o : Option (List Rec)). o >>= joined h) (next_is (count - (i + 1)) bytes r rest e) ∙ join_none h r (recs_in (count - (i + 1)) rest) may

pub joins_stop : (e : Stop) (count i : ℕ) (bytes : List ℕ) (h : History) (total : Option History) → i < count → 0 < length bytes → Stops e (rec_at bytes) → joins (count - i) bytes h ≡ total → Stops e total
joins_stop stops.Memory count i bytes h total lt some e so_far = tt
joins_stop stops.Unlawful count i [] h total lt some e so_far = absurd (omega arith)
joins_stop stops.Unlawful count i (b ∷ bytes) h total lt some e so_far =
    let k : count - i ≡ suc (count - (i + 1)) = omega arith in
    sym so_far ∙ ap (λ (n : ℕ). joins n (b ∷ bytes) h) k ∙ ap (λ (o : Option (List Rec)). o >>= joined h) (no_next (count - (i + 1)) b bytes e)

pub joins_done : (n : ℕ) (bytes : List ℕ) (h : History) (total : Option History) → length bytes ≡ 0 → joins n bytes h ≡ total → total ≡ Some h
unfolding recs_in
joins_done n (b ∷ bytes) h total none so_far = absurd (omega arith)
joins_done zero [] h total none so_far = sym so_far
joins_done (suc n) [] h total none so_far = sym so_far

pub joins_left : (n : ℕ) (bytes : List ℕ) (h : History) (total : Option History) → n ≡ 0 → 0 < length bytes → joins n bytes h ≡ total → total ≡ None
unfolding recs_in
joins_left n [] h total is some so_far = absurd (omega arith)
joins_left zero (b ∷ bytes) h total is some so_far = sym so_far
joins_left (suc n) (b ∷ bytes) h total is some so_far = absurd (omega arith)

-- ---- the first body

first_of : (r : Rec) (others : List Rec) → first_number (r ∷ others) ≡ first_number (r ∷ [])
first_of (records.Checkpoint number counters) others = refl
first_of (records.Commit top subs) others = refl
first_of (records.Abort top subs) others = refl
first_of (records.Multi multi offset members) others = refl
first_of (records.Truncate oldest multi offset) others = refl

abbrev beginning : ℕ → List Rec → Option History
beginning at recs = first_number recs >>= λ number. cond (ltb at number) None (joined (began number) recs)

-- a record begins, and the others join
goes_by_first : (at : ℕ) (a : Option ℕ) (r : Rec) (others : List Rec) → (a >>= λ number. cond (ltb at number) None (joined (began number) (r ∷ others)))
    ≡ ((a >>= λ number. cond (ltb at number) None (joined (began number) (r ∷ []))) >>= λ h. joined h others)
goes_by_first at None r others = refl
goes_by_first at (Some n) r others = by_test (ltb at n) (may_follow (began n) r)
  where
    by_test : (late may : Bool) → cond late None (cond may (joined (with_rec (began n) r) others) None) ≡ (cond late None (cond may (Some (with_rec (began n) r)) None) >>= λ h. joined h others)
    by_test true may = refl
    by_test false true = refl
    by_test false false = refl

begins : (at : ℕ) (r : Rec) (o : Option (List Rec)) → ((o >>= λ others. Some (r ∷ others)) >>= beginning at) ≡ (o >>= λ others. begun at r >>= λ h. joined h others)
begins at r None = refl
begins at r (Some others) = ap (λ (a : Option ℕ). a >>= λ number. cond (ltb at number) None (joined (began number) (r ∷ others))) (first_of r others) ∙ goes_by_first at (first_number (r ∷ [])) r others

swapped : (o : Option (List Rec)) (h : History) → (o >>= λ others. Some h >>= λ x. joined x others) ≡ (o >>= joined h)
swapped None h = refl
swapped (Some others) h = refl

swapped_none : (o : Option (List Rec)) → (o >>= λ others. None >>= λ (x : History). joined x others) ≡ None
swapped_none None = refl
swapped_none (Some others) = refl

first_body : (at n : ℕ) (body : List ℕ) (r : Rec) (rest : List ℕ) → length body ≡ suc n → rec_at body ≡ Some (r, rest) → with_body at None body ≡ (recs_in n rest >>= λ others. begun at r >>= λ h. joined h others)
first_body at n body r rest long e =
    ap (λ (k : ℕ). recs_in k body >>= beginning at) long ∙ ap (λ (o : Option (List Rec)). o >>= beginning at) (next_is n body r rest e) ∙ begins at r (recs_in n rest)

pub first_begins : (at : ℕ) (body : List ℕ) (r : Rec) (rest : List ℕ) (h : History) → 0 < length body → rec_at body ≡ Some (r, rest) → begun at r ≡ Some h → with_body at None body ≡ joins (length body - 1) rest h
first_begins at body r rest h some e is =
    let n : ℕ = length body - 1 in let long : length body ≡ suc n = omega arith in
    first_body at n body r rest long e ∙ ap (λ (b : Option History). recs_in n rest >>= λ others. b >>= λ x. joined x others) is ∙ swapped (recs_in n rest) h

pub first_fails : (at : ℕ) (body : List ℕ) (r : Rec) (rest : List ℕ) → 0 < length body → rec_at body ≡ Some (r, rest) → begun at r ≡ None → with_body at None body ≡ None
first_fails at body r rest some e is =
    let n : ℕ = length body - 1 in let long : length body ≡ suc n = omega arith in
    first_body at n body r rest long e ∙ ap (λ (b : Option History). recs_in n rest >>= λ others. b >>= λ x. joined x others) is ∙ swapped_none (recs_in n rest)

pub first_unread : (at : ℕ) (body : List ℕ) → 0 < length body → rec_at body ≡ None → with_body at None body ≡ None
first_unread at [] some e = absurd (omega arith)
first_unread at (b ∷ body) some e = ap (λ (o : Option (List Rec)). o >>= beginning at) (no_next (length body) b body e)

pub first_empty : (at : ℕ) (body : List ℕ) → length body ≡ 0 → with_body at None body ≡ None
unfolding recs_in
first_empty at [] none = refl
first_empty at (b ∷ body) none = absurd (omega arith)

-- ---- the first record

raised : (n : ℕ) (c : Counters) → after_record no_counters (records.Checkpoint n c) ≡ c
raised n c =
    let a : max 0 c.next ≡ c.next = omega arith in let b : max 0 c.oldest ≡ c.oldest = omega arith in
    let d : max 0 c.multi ≡ c.multi = omega arith in let e : max 0 c.offset ≡ c.offset = omega arith in
    let f : max 0 c.oldest_multi ≡ c.oldest_multi = omega arith in let g : max 0 c.oldest_offset ≡ c.oldest_offset = omega arith in
    (λ i. record { next = a i; oldest = b i; multi = d i; offset = e i; oldest_multi = f i; oldest_offset = g i })

abbrev begun_with : ℕ → ℕ → Counters → Option History
begun_with at n c = cond (ltb at n) None (cond (is_base_of c) (Some (record { first = n; recs = records.Checkpoint n c ∷ []; counters = c })) None)

begun_checkpoint : (at n : ℕ) (c : Counters) → begun at (records.Checkpoint n c) ≡ begun_with at n c
begun_checkpoint at n c =
    let r : Rec = records.Checkpoint n c in
    let here : n ≡ n + 0 = omega arith in
    let fits : number_fits (next_number (began n)) r ≡ true = eq-eqb n (n + 0) here in
    let may : may_follow (began n) r ≡ is_base_of c = rw fits (ap is_base_of (raised n c)) in
    ap (λ (b : Bool). cond (ltb at n) None (cond b (Some (with_rec (began n) r)) None)) may
    ∙ ap (λ (k : Counters). cond (ltb at n) None (cond (is_base_of c) (Some (record { first = n; recs = r ∷ []; counters = k })) None)) (raised n c)

pub begun_late : (at n : ℕ) (c : Counters) (r : Rec) → r ≡ records.Checkpoint n c → at < n → begun at r ≡ None
begun_late at n c r is late =
    ap (begun at) is ∙ begun_checkpoint at n c ∙ ap (λ (b : Bool). cond b None (cond (is_base_of c) (Some (record { first = n; recs = records.Checkpoint n c ∷ []; counters = c })) None)) (lt-ltb at n late)

cond_none : (b : Bool) → cond {A = Option History} b None None ≡ None
cond_none true = refl
cond_none false = refl

pub begun_not : (at n : ℕ) (c : Counters) (r : Rec) → r ≡ records.Checkpoint n c → is_base_of c ≡ false → begun at r ≡ None
begun_not at n c r is not_base =
    ap (begun at) is ∙ begun_checkpoint at n c ∙ ap (λ (b : Bool). cond (ltb at n) None (cond b (Some (record { first = n; recs = records.Checkpoint n c ∷ []; counters = c })) None)) not_base ∙ cond_none (ltb at n)

pub begun_so : (at n : ℕ) (c : Counters) (r : Rec) (recs : List Rec) → r ≡ records.Checkpoint n c → n ≤ at → is_base_of c ≡ true → recs ≡ records.Checkpoint n c ∷ [] → begun at r ≡ Some (record { first = n; recs = recs; counters = c })
begun_so at n c r recs is early base same =
    ap (begun at) is ∙ begun_checkpoint at n c
    ∙ ap (λ (b : Bool). cond b None (cond (is_base_of c) (Some (record { first = n; recs = records.Checkpoint n c ∷ []; counters = c })) None)) (le-ltb at n early)
    ∙ ap (λ (b : Bool). cond b (Some (record { first = n; recs = records.Checkpoint n c ∷ []; counters = c })) None) base
    ∙ ap (λ (l : List Rec). Some (record { first = n; recs = l; counters = c })) (sym same)

-- ---- tests for emptiness

pub empty_length : (b : Bool) (n : ℕ) → b ≡ eqb n 0 → b ≡ true → n ≡ 0
empty_length b n is so = elim (cases_eq n 0) [
  | inl e ↦ e
  | inr apart ↦ let f : eqb n 0 ≡ false = ne_eqb n 0 apart in absurd cc
]

pub some_length : (b : Bool) (n : ℕ) → b ≡ eqb n 0 → b ≡ false → 0 < n
some_length b n is not_so = elim (cases_eq n 0) [
  | inl e ↦ let t : eqb n 0 ≡ true = eq-eqb n 0 e in absurd cc
  | inr apart ↦ omega arith
]

pub first_stop : (e : Stop) (at : ℕ) (body : List ℕ) → 0 < length body → Stops e (rec_at body) → Stops e (with_body at None body)
first_stop stops.Memory at body some h = tt
first_stop stops.Unlawful at body some h = first_unread at body some h

pub begin_stop : (e : Stop) (at : ℕ) (body : List ℕ) (r : Rec) (rest : List ℕ) → 0 < length body → rec_at body ≡ Some (r, rest) → Stops e (begun at r) → Stops e (with_body at None body)
begin_stop stops.Memory at body r rest some e h = tt
begin_stop stops.Unlawful at body r rest some e h = first_fails at body r rest some e h
