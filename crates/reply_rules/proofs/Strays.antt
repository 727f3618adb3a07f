-- Which multixacts' records are no event's.
use Rattle.std.proofs.Common.{◌≡◌, ◌↔◌, ◌+◌, ◌<◌, ◌≤◌, ◌||◌, ℕ, zero, suc, Bool, true, false, not, cond, List, [], ◌∷◌, ◌++◌, Some, length, take, get_or, refl, sym, ap, subst, ◌∙◌, arith, ⊎_elim}
use Rattle.std.specs.Prelude.{Contains, IsTrue}
use Rattle.std.specs.List.{AllByRecursion, list_any}
use Rattle.std.specs.Cmp.Lexicographic.{nat_list_cmp_total, slice_cmp}
use Rattle.std.specs.Ordering.{is_eq, nat_cmp, ordering_reverse}
use Rattle.std.specs.declared.cmp.Ordering.{Ordering}
use Rattle.std.specs.declared.cmp.Ordering.TheVariants.{Equal, Greater, Less}
use Rattle.std.proofs.lemmas.Map.Lookups.{exact_bytes}
use Rattle.std.proofs.lemmas.List.{take_more}
use Rattle.tx_events.specs.Modes.{mode_number, mode_of}
use Rattle.tx_events.specs.declared.event.By.{By}
use Rattle.tx_events.specs.declared.multi.Member.{Member}
use Rattle.tx_events.specs.declared.multi.Mode.{Mode}
use Rattle.tx_events.specs.declared.multi.Mode.TheVariants as modes
use Rattle.tx_events.specs.declared.multi.MultiEvent.{MultiEvent}
use Rattle.tx_events.specs.declared.multi.MultiEvent.TheVariants as multis
use Rattle.tx_events.specs.declared.record.Rec.{Rec}
use Rattle.tx_events.specs.declared.record.Rec.TheVariants as records
use Rattle.report_law.specs.Steps.{IsStrayMulti, Judged}
use Rattle.reply_rules.specs.Gens.{IsStrayRec, is_gen_of, key_of, members_key}
use Rattle.reply_rules.proofs.Faulty.{either, right_true}

-- ---- keys tell multixacts apart

mode_again : (m : Mode) → mode_of (mode_number m) ≡ Some m
mode_again modes.KeySh = refl
mode_again modes.Sh = refl
mode_again modes.ForNoKeyUpd = refl
mode_again modes.ForUpd = refl
mode_again modes.NoKeyUpd = refl
mode_again modes.Upd = refl

same_mode : (m n : Mode) → mode_number m ≡ mode_number n → m ≡ n
same_mode m n e = let some : Some m ≡ Some n = sym (mode_again m) ∙ ap mode_of e ∙ mode_again n in cc

same_members : (a b : List Member) → members_key a ≡ members_key b → a ≡ b
same_members [] [] e = refl
same_members [] (n ∷ b) e = absurd cc
same_members (m ∷ a) [] e = absurd cc
same_members (m ∷ a) (n ∷ b) e =
    let id : m.id ≡ n.id = cc in
    let number : mode_number m.mode ≡ mode_number n.mode = cc in
    let rest : members_key a ≡ members_key b = cc in
    let mode = same_mode m.mode n.mode number in
    let first : m ≡ n = ap (λ k. record { id = k; mode = m.mode }) id ∙ ap (λ (k : Mode). record { id = n.id; mode = k }) mode in
    ap (λ (k : Member). k ∷ a) first ∙ ap (λ (k : List Member). n ∷ k) (same_members a b rest)

same_key : (multi offset other at : ℕ) (a b : List Member) → key_of multi offset a ≡ key_of other at b → (multi ≡ other) × (offset ≡ at) × (a ≡ b)
same_key multi offset other at a b e =
    let m : multi ≡ other = cc in
    let o : offset ≡ at = cc in
    let rest : members_key a ≡ members_key b = cc in
    (m, o, same_members a b rest)

equal_keys : (o : Ordering) → is_eq o ≡ true → o ≡ Equal
equal_keys Less e = absurd cc
equal_keys Equal e = refl
equal_keys Greater e = absurd cc

-- ---- the events that give one

abbrev IsGen : List MultiEvent → ℕ → ℕ → List Member → Type 0
IsGen all multi offset members = (by : By) × Contains all (multis.Gen by multi offset members)

gen_later : (e : MultiEvent) (all : List MultiEvent) (multi offset : ℕ) (members : List Member) → IsGen all multi offset members → IsGen (e ∷ all) multi offset members
gen_later e all multi offset members g = let l = g.1.1 in (g.0, (suc g.1.0, omega arith, g.1.2))

gen_first : (e : MultiEvent) (all : List MultiEvent) (multi offset : ℕ) (members : List Member) → is_gen_of (key_of multi offset members) e ≡ true → IsGen (e ∷ all) multi offset members
gen_first (multis.Gen by other at others) all multi offset members t =
    let keys : key_of other at others ≡ key_of multi offset members = exact_bytes (key_of other at others) (key_of multi offset members) (equal_keys (slice_cmp nat_cmp (key_of other at others) (key_of multi offset members)) t) in
    let same = same_key other at multi offset others members keys in
    (by, (0, omega arith, ap (λ n. multis.Gen by n at others) same.0 ∙ ap (λ n. multis.Gen by multi n others) same.1 ∙ ap (λ (n : List Member). multis.Gen by multi offset n) same.2))
gen_first e all multi offset members t = absurd cc

is_gen : (all : List MultiEvent) (multi offset : ℕ) (members : List Member) → list_any (is_gen_of (key_of multi offset members)) all ≡ true → IsGen all multi offset members
is_gen [] multi offset members t = absurd cc
is_gen (e ∷ all) multi offset members t =
    ⊎_elim
    (λ (u : is_gen_of (key_of multi offset members) e ≡ true). gen_first e all multi offset members u)
    (λ (u : list_any (is_gen_of (key_of multi offset members)) all ≡ true). gen_later e all multi offset members (is_gen all multi offset members u))
    (either (is_gen_of (key_of multi offset members) e) (list_any (is_gen_of (key_of multi offset members)) all) t)

self_equal : (o : Ordering) → o ≡ ordering_reverse o → is_eq o ≡ true
self_equal Less e = absurd cc
self_equal Equal e = refl
self_equal Greater e = absurd cc

same_compares : (k : List ℕ) → is_eq (slice_cmp nat_cmp k k) ≡ true
same_compares k = self_equal (slice_cmp nat_cmp k k) (nat_list_cmp_total.antisymm k k)

has_gen : (all : List MultiEvent) (by : By) (multi offset : ℕ) (members : List Member) (k : ℕ) → k < length all → get_or all k (multis.Gen by multi offset members) ≡ multis.Gen by multi offset members → list_any (is_gen_of (key_of multi offset members)) all ≡ true
has_gen [] by multi offset members k l is = absurd (omega arith)
has_gen (e ∷ all) by multi offset members zero l is =
    subst (λ (x : MultiEvent). list_any (is_gen_of (key_of multi offset members)) (x ∷ all) ≡ true) (sym is) (rw (same_compares (key_of multi offset members)) refl)
has_gen (e ∷ all) by multi offset members (suc k) l is =
    right_true (is_gen_of (key_of multi offset members) e) (list_any (is_gen_of (key_of multi offset members)) all) (has_gen all by multi offset members k (omega arith) is)

-- ---- a record's

pub stray_is : (all : List MultiEvent) (b : Bool) (multi offset : ℕ) (members : List Member) → b ≡ list_any (is_gen_of (key_of multi offset members)) all → IsTrue (not b) ↔ IsStrayRec all (records.Multi multi offset members)
stray_is all true multi offset members is = (
  λ t. absurd cc,
  λ never. let g = is_gen all multi offset members (sym is) in absurd (never g.0 g.1),
)
stray_is all false multi offset members is = (
  λ t by g. let has = has_gen all by multi offset members g.0 g.1 g.2 in absurd cc,
  λ never. refl,
)

stray_rec : (j : Judged) (rec : Rec) (k : ℕ) → k < length j.life.recs → rec ≡ get_or j.life.recs k rec → IsStrayRec j.life.multis rec → IsStrayMulti j
stray_rec j (records.Multi multi offset members) k l is s = record { multi = multi; offset = offset; members = members; stands = (k, l, sym is); ungiven = s }
stray_rec j rec k l is s = absurd s

all_at : (Q : Rec → Type 0) (recs : List Rec) (k : ℕ) (d : Rec) → AllByRecursion Q recs → k < length recs → Q (get_or recs k d)
all_at Q [] k d a l = absurd (omega arith)
all_at Q (r ∷ recs) zero d a l = a.0
all_at Q (r ∷ recs) (suc k) d a l = all_at Q recs k d a.1 (omega arith)

pub stray_found : (j : Judged) (recs : List Rec) (all : List MultiEvent) (rec : Rec) (k : ℕ) → j.life.recs ≡ recs → j.life.multis ≡ all → k < length recs → rec ≡ get_or recs k rec → IsStrayRec all rec → IsStrayMulti j
stray_found j recs all rec k r m l is s =
    stray_rec j rec k (subst (λ (t : List Rec). k < length t) (sym r) l) (subst (λ (t : List Rec). rec ≡ get_or t k rec) (sym r) is) (subst (λ (t : List MultiEvent). IsStrayRec t rec) (sym m) s)

pub none_stray : (j : Judged) (recs : List Rec) (all : List MultiEvent) → j.life.recs ≡ recs → j.life.multis ≡ all → AllByRecursion (λ (rec : Rec). IsStrayRec all rec → ⊥) recs → IsStrayMulti j → ⊥
none_stray j recs all r m none s =
    let rec = records.Multi s.multi s.offset s.members in
    let stands = subst (λ (t : List Rec). Contains t rec) r s.stands in
    let never = subst (λ (x : Rec). IsStrayRec all x → ⊥) stands.2 (all_at (λ (x : Rec). IsStrayRec all x → ⊥) recs stands.0 rec none stands.1) in
    never (λ by g. s.ungiven by (subst (λ (t : List MultiEvent). Contains t (multis.Gen by s.multi s.offset s.members)) (sym m) g))

-- ---- loops

pub noted : (found old : Bool) → cond found true old ≡ (old || found)
noted true true = refl
noted true false = refl
noted false true = refl
noted false false = refl

all_push : (Q : Rec → Type 0) (xs : List Rec) (x : Rec) → AllByRecursion Q xs → Q x → AllByRecursion Q (xs ++ x ∷ [])
all_push Q [] x a q = (q, tt)
all_push Q (y ∷ xs) x a q = (a.0, all_push Q xs x a.1 q)

pub none_more : (all : List MultiEvent) (recs : List Rec) (i : ℕ) (rec : Rec) → AllByRecursion (λ (r : Rec). IsStrayRec all r → ⊥) (take i recs) → i < length recs → rec ≡ get_or recs i rec → (IsStrayRec all rec → ⊥) → AllByRecursion (λ (r : Rec). IsStrayRec all r → ⊥) (take (i + 1) recs)
none_more all recs i rec a l is never =
    subst (AllByRecursion (λ (r : Rec). IsStrayRec all r → ⊥)) (sym (take_more recs i rec l ∙ ap (λ (r : Rec). take i recs ++ r ∷ []) (sym is)))
    (all_push (λ (r : Rec). IsStrayRec all r → ⊥) (take i recs) rec a never)

pub all_taken : (n : ℕ) (recs : List Rec) → length recs ≤ n → take n recs ≡ recs
all_taken zero [] l = refl
all_taken (suc n) [] l = refl
all_taken zero (r ∷ recs) l = absurd (omega arith)
all_taken (suc n) (r ∷ recs) l = ap (λ (t : List Rec). r ∷ t) (all_taken n recs (omega arith))
