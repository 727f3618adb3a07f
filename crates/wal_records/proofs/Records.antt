-- The two laws of records: what is read is spelled so, and what is spelled so is read.
use Rattle.std.proofs.Common.{◌≡◌, ℕ, zero, suc, ◌^◌, ◌<◌, ◌≤◌, Bool, true, false, cond, ltb, List, [], ◌∷◌, ◌++◌, length, Option, Some, None, refl, sym, ap, subst, ◌∙◌, append_assoc, arith}
use Rattle.std.specs.List.{flat_map, AllByRecursion}
use Rattle.std.proofs.lemmas.Bool.{ltb-false, le-ltb}
use Rattle.std.proofs.lemmas.List.Concat.{flat_map-cons}
use Rattle.tx_events.specs.declared.multi.Member.{Member}
use Rattle.tx_events.specs.declared.record.Counters.{Counters}
use Rattle.tx_events.specs.declared.record.Rec.{Rec}
use Rattle.tx_events.specs.declared.record.Rec.TheVariants as records
use Rattle.tx_events.specs.Modes.{mode_number, mode_of}
use Rattle.tx_events.proofs.ModeNumbers.{mode_takes, mode_again}
use Rattle.wal_records.specs.Numbers.{le_bytes}
use Rattle.wal_records.specs.Spelling.{member_bytes, tree_bytes, multi_bytes, counters_bytes, truncate_bytes, rec_bytes, IsId, IsTree, IsMultiRecord, AreCounters, IsTruncate, IsLawful}
use Rattle.wal_records.specs.Reading.{◌>>=◌, number_at, id_at, multi_at, ids_at, member_at, members_at, tree_at, commit_at, abort_at, multi_rec_at, counters_at, checkpoint_at, truncate_at, rec_at}
use Rattle.wal_records.proofs.Fields.{IsBytes, IsBytes-rest, bind_some, some_is, Takes, Takes-then, number_takes, number_again, id_takes, id_again, multi_takes, multi_again, ids_take, ids_again}

-- ---- members

member_takes : (bytes : List ℕ) (x : Member × List ℕ) → IsBytes bytes → member_at bytes ≡ Some x → Takes bytes (member_bytes x.0) x.1 × IsId x.0.id
unfolding member_at
member_takes [] x fits e = absurd cc
member_takes (b ∷ bytes) x fits e =
    let a = bind_some (mode_of b) (λ mode. id_at bytes >>= λ id. Some (record { id = id.0; mode = mode }, id.1)) x e in
    let c = bind_some (id_at bytes) (λ id. Some (record { id = id.0; mode = a.0 }, id.1)) x a.2 in
    let t = id_takes bytes c.0.0 c.0.1 (IsBytes-rest b bytes fits) c.1 in
    let made : Member × List ℕ = (record { id = c.0.0; mode = a.0 }, c.0.1) in
    let here : b ≡ mode_number a.0 = mode_takes b a.0 a.1 in
    let whole : b ∷ bytes ≡ member_bytes made.0 ++ made.1 = λ i. here i ∷ t.0.parts i in
    subst (λ (y : Member × List ℕ). Takes (b ∷ bytes) (member_bytes y.0) y.1 × IsId y.0.id) (some_is made x c.2) (record { parts = whole; rest_fits = t.0.rest_fits }, t.1)

member_again : (m : Member) (rest : List ℕ) → IsId m.id → member_at (member_bytes m ++ rest) ≡ Some (m, rest)
unfolding member_at
member_again m rest id = rw (mode_again m.mode, id_again m.id rest id) refl

members_take : (n : ℕ) (bytes : List ℕ) (x : List Member × List ℕ) → IsBytes bytes → members_at n bytes ≡ Some x → Takes bytes (flat_map member_bytes x.0) x.1 × (length x.0 ≡ n) × AllByRecursion (λ m. IsId m.id) x.0
unfolding members_at
members_take zero bytes x fits e =
    subst (λ (y : List Member × List ℕ). Takes bytes (flat_map member_bytes y.0) y.1 × (length y.0 ≡ 0) × AllByRecursion (λ m. IsId m.id) y.0) (some_is ([], bytes) x e) (record { parts = refl; rest_fits = fits }, refl, tt)
members_take (suc n) bytes x fits e =
    let a = bind_some (member_at bytes) (λ first. members_at n first.1 >>= λ others. Some (first.0 ∷ others.0, others.1)) x e in
    let b = bind_some (members_at n a.0.1) (λ others. Some (a.0.0 ∷ others.0, others.1)) x a.2 in
    let first = member_takes bytes a.0 fits a.1 in
    let second = members_take n a.0.1 b.0 first.0.rest_fits b.1 in
    let both = Takes-then bytes (member_bytes a.0.0) a.0.1 (flat_map member_bytes b.0.0) b.0.1 first.0 second.0 in
    let made : List Member × List ℕ = (a.0.0 ∷ b.0.0, b.0.1) in
    subst (λ (y : List Member × List ℕ). Takes bytes (flat_map member_bytes y.0) y.1 × (length y.0 ≡ suc n) × AllByRecursion (λ m. IsId m.id) y.0) (some_is made x b.2) (rw flat_map-cons both, ap suc second.1, (first.1, second.2))

members_again : (ms : List Member) (rest : List ℕ) → AllByRecursion (λ m. IsId m.id) ms → members_at (length ms) (flat_map member_bytes ms ++ rest) ≡ Some (ms, rest)
unfolding members_at
members_again [] rest h = refl
members_again (m ∷ ms) rest h =
    let regrouped : flat_map member_bytes (m ∷ ms) ++ rest ≡ member_bytes m ++ (flat_map member_bytes ms ++ rest) = ap (λ (t : List ℕ). t ++ rest) (flat_map-cons member_bytes m ms) ∙ append_assoc (member_bytes m) (flat_map member_bytes ms) rest in
    ap (members_at (suc (length ms))) regrouped ∙ rw (member_again m (flat_map member_bytes ms ++ rest) h.0, members_again ms rest h.1) refl

-- ---- a top id and its subids

tree_takes : (bytes : List ℕ) (x : (ℕ × List ℕ) × List ℕ) → IsBytes bytes → tree_at bytes ≡ Some x → Takes bytes (tree_bytes x.0.0 x.0.1) x.1 × IsTree x.0.0 x.0.1
unfolding tree_at tree_bytes
tree_takes bytes x fits e =
    let a = bind_some (id_at bytes) (λ top. number_at 4 top.1 >>= λ n. ids_at n.0 top.0 n.1 >>= λ subs. Some ((top.0, subs.0), subs.1)) x e in
    let b = bind_some (number_at 4 a.0.1) (λ n. ids_at n.0 a.0.0 n.1 >>= λ subs. Some ((a.0.0, subs.0), subs.1)) x a.2 in
    let c = bind_some (ids_at b.0.0 a.0.0 b.0.1) (λ subs. Some ((a.0.0, subs.0), subs.1)) x b.2 in
    let t0 = id_takes bytes a.0.0 a.0.1 fits a.1 in
    let t1 = number_takes 4 a.0.1 b.0.0 b.0.1 t0.0.rest_fits b.1 in
    let t2 = ids_take b.0.0 a.0.0 b.0.1 c.0 t1.0.rest_fits c.1 in
    let count : Takes a.0.1 (le_bytes 4 (length c.0.0)) b.0.1 = subst (λ (k : ℕ). Takes a.0.1 (le_bytes 4 k) b.0.1) (sym t2.1) t1.0 in
    let few : length c.0.0 < 2 ^ 32 = omega (arith, t2.1, t1.1) in
    let e12 = Takes-then a.0.1 (le_bytes 4 (length c.0.0)) b.0.1 (flat_map (le_bytes 8) c.0.0) c.0.1 count t2.0 in
    let e02 = Takes-then bytes (le_bytes 8 a.0.0) a.0.1 (le_bytes 4 (length c.0.0) ++ flat_map (le_bytes 8) c.0.0) c.0.1 t0.0 e12 in
    let made : (ℕ × List ℕ) × List ℕ = ((a.0.0, c.0.0), c.0.1) in
    subst (λ (y : (ℕ × List ℕ) × List ℕ). Takes bytes (tree_bytes y.0.0 y.0.1) y.1 × IsTree y.0.0 y.0.1) (some_is made x c.2) (e02, record { top = t0.1; few = few; subs = t2.2 })

tree_again : (top : ℕ) (subs rest : List ℕ) → IsTree top subs → tree_at (tree_bytes top subs ++ rest) ≡ Some ((top, subs), rest)
unfolding tree_at tree_bytes
tree_again top subs rest h =
    let x0 : List ℕ = flat_map (le_bytes 8) subs in
    let regrouped : (le_bytes 8 top ++ (le_bytes 4 (length subs) ++ x0)) ++ rest ≡ le_bytes 8 top ++ (le_bytes 4 (length subs) ++ (x0 ++ rest)) = simp append_assoc in
    ap tree_at regrouped ∙ rw (id_again top (le_bytes 4 (length subs) ++ (x0 ++ rest)) h.top, number_again 4 (length subs) (x0 ++ rest) h.few, ids_again subs top rest h.subs) refl

-- ---- multixacts

cond_some_2 : {A : Type 0} (b : Bool) (r : Option A) (y : A) → cond b None r ≡ Some y → (b ≡ false) × (r ≡ Some y)
cond_some_2 true r y e = absurd cc
cond_some_2 false r y e = (refl, e)

multi_rec_takes : (bytes : List ℕ) (x : Rec × List ℕ) → IsBytes bytes → multi_rec_at bytes ≡ Some x → Takes (3 ∷ bytes) (rec_bytes x.0) x.1 × IsLawful x.0
unfolding multi_rec_at multi_bytes
multi_rec_takes bytes x fits e =
    let a = bind_some (multi_at bytes) (λ multi. number_at 8 multi.1 >>= λ offset. number_at 4 offset.1 >>= λ n. cond (ltb n.0 1) None (cond (ltb 64 n.0) None (members_at n.0 n.1)) >>= λ members. Some (records.Multi multi.0 offset.0 members.0, members.1)) x e in
    let b = bind_some (number_at 8 a.0.1) (λ offset. number_at 4 offset.1 >>= λ n. cond (ltb n.0 1) None (cond (ltb 64 n.0) None (members_at n.0 n.1)) >>= λ members. Some (records.Multi a.0.0 offset.0 members.0, members.1)) x a.2 in
    let c = bind_some (number_at 4 b.0.1) (λ n. cond (ltb n.0 1) None (cond (ltb 64 n.0) None (members_at n.0 n.1)) >>= λ members. Some (records.Multi a.0.0 b.0.0 members.0, members.1)) x b.2 in
    let d = bind_some (cond (ltb c.0.0 1) None (cond (ltb 64 c.0.0) None (members_at c.0.0 c.0.1))) (λ members. Some (records.Multi a.0.0 b.0.0 members.0, members.1)) x c.2 in
    let g = cond_some_2 (ltb c.0.0 1) (cond (ltb 64 c.0.0) None (members_at c.0.0 c.0.1)) d.0 d.1 in
    let k = cond_some_2 (ltb 64 c.0.0) (members_at c.0.0 c.0.1) d.0 g.1 in
    let some : 1 ≤ c.0.0 = ltb-false _ _ g.0 in
    let few : c.0.0 ≤ 64 = ltb-false _ _ k.0 in
    let t0 = multi_takes bytes a.0.0 a.0.1 fits a.1 in
    let t1 = number_takes 8 a.0.1 b.0.0 b.0.1 t0.0.rest_fits b.1 in
    let t2 = number_takes 4 b.0.1 c.0.0 c.0.1 t1.0.rest_fits c.1 in
    let t3 = members_take c.0.0 c.0.1 d.0 t2.0.rest_fits k.1 in
    let count : Takes b.0.1 (le_bytes 4 (length d.0.0)) c.0.1 = subst (λ (k : ℕ). Takes b.0.1 (le_bytes 4 k) c.0.1) (sym t3.1) t2.0 in
    let e23 = Takes-then b.0.1 (le_bytes 4 (length d.0.0)) c.0.1 (flat_map member_bytes d.0.0) d.0.1 count t3.0 in
    let e13 = Takes-then a.0.1 (le_bytes 8 b.0.0) b.0.1 (le_bytes 4 (length d.0.0) ++ flat_map member_bytes d.0.0) d.0.1 t1.0 e23 in
    let e03 = Takes-then bytes (le_bytes 8 a.0.0) a.0.1 (le_bytes 8 b.0.0 ++ (le_bytes 4 (length d.0.0) ++ flat_map member_bytes d.0.0)) d.0.1 t0.0 e13 in
    let made : Rec × List ℕ = (records.Multi a.0.0 b.0.0 d.0.0, d.0.1) in
    let whole : Takes (3 ∷ bytes) (rec_bytes made.0) made.1 = record { parts = ap (λ (t : List ℕ). 3 ∷ t) e03.parts; rest_fits = e03.rest_fits } in
    subst (λ (y : Rec × List ℕ). Takes (3 ∷ bytes) (rec_bytes y.0) y.1 × IsLawful y.0) (some_is made x d.2) (whole, record { multi = t0.1; offset = t1.1; some = omega (arith, some, t3.1); few = omega (arith, few, t3.1); ids = t3.2 })

multi_rec_again : (multi offset : ℕ) (members : List Member) (rest : List ℕ) → IsMultiRecord multi offset members → multi_rec_at (multi_bytes multi offset members ++ rest) ≡ Some (records.Multi multi offset members, rest)
unfolding multi_rec_at multi_bytes
multi_rec_again multi offset members rest h =
    let x0 : List ℕ = flat_map member_bytes members in
    let regrouped : (le_bytes 8 multi ++ (le_bytes 8 offset ++ (le_bytes 4 (length members) ++ x0))) ++ rest ≡ le_bytes 8 multi ++ (le_bytes 8 offset ++ (le_bytes 4 (length members) ++ (x0 ++ rest))) = simp append_assoc in
    let some : ltb (length members) 1 ≡ false = le-ltb _ _ h.some in
    let few : ltb 64 (length members) ≡ false = le-ltb _ _ h.few in
    let fits : length members < 256 ^ 4 = omega (arith, h.few) in
    ap multi_rec_at regrouped ∙ rw (multi_again multi (le_bytes 8 offset ++ (le_bytes 4 (length members) ++ (x0 ++ rest))) h.multi, number_again 8 offset (le_bytes 4 (length members) ++ (x0 ++ rest)) h.offset, number_again 4 (length members) (x0 ++ rest) fits, some, few, members_again members rest h.ids) refl

-- ---- counters

counters_takes : (bytes : List ℕ) (x : Counters × List ℕ) → IsBytes bytes → counters_at bytes ≡ Some x → Takes bytes (counters_bytes x.0) x.1 × AreCounters x.0
unfolding counters_at counters_bytes
counters_takes bytes x fits e =
    let a = bind_some (id_at bytes) (λ next. id_at next.1 >>= λ oldest. multi_at oldest.1 >>= λ multi. number_at 8 multi.1 >>= λ offset. multi_at offset.1 >>= λ oldest_multi. number_at 8 oldest_multi.1 >>= λ oldest_offset. Some (record { next = next.0; oldest = oldest.0; multi = multi.0; offset = offset.0; oldest_multi = oldest_multi.0; oldest_offset = oldest_offset.0 }, oldest_offset.1)) x e in
    let b = bind_some (id_at a.0.1) (λ oldest. multi_at oldest.1 >>= λ multi. number_at 8 multi.1 >>= λ offset. multi_at offset.1 >>= λ oldest_multi. number_at 8 oldest_multi.1 >>= λ oldest_offset. Some (record { next = a.0.0; oldest = oldest.0; multi = multi.0; offset = offset.0; oldest_multi = oldest_multi.0; oldest_offset = oldest_offset.0 }, oldest_offset.1)) x a.2 in
    let c = bind_some (multi_at b.0.1) (λ multi. number_at 8 multi.1 >>= λ offset. multi_at offset.1 >>= λ oldest_multi. number_at 8 oldest_multi.1 >>= λ oldest_offset. Some (record { next = a.0.0; oldest = b.0.0; multi = multi.0; offset = offset.0; oldest_multi = oldest_multi.0; oldest_offset = oldest_offset.0 }, oldest_offset.1)) x b.2 in
    let d = bind_some (number_at 8 c.0.1) (λ offset. multi_at offset.1 >>= λ oldest_multi. number_at 8 oldest_multi.1 >>= λ oldest_offset. Some (record { next = a.0.0; oldest = b.0.0; multi = c.0.0; offset = offset.0; oldest_multi = oldest_multi.0; oldest_offset = oldest_offset.0 }, oldest_offset.1)) x c.2 in
    let f = bind_some (multi_at d.0.1) (λ oldest_multi. number_at 8 oldest_multi.1 >>= λ oldest_offset. Some (record { next = a.0.0; oldest = b.0.0; multi = c.0.0; offset = d.0.0; oldest_multi = oldest_multi.0; oldest_offset = oldest_offset.0 }, oldest_offset.1)) x d.2 in
    let h = bind_some (number_at 8 f.0.1) (λ oldest_offset. Some (record { next = a.0.0; oldest = b.0.0; multi = c.0.0; offset = d.0.0; oldest_multi = f.0.0; oldest_offset = oldest_offset.0 }, oldest_offset.1)) x f.2 in
    let ta = id_takes bytes a.0.0 a.0.1 fits a.1 in
    let tb = id_takes a.0.1 b.0.0 b.0.1 ta.0.rest_fits b.1 in
    let tc = multi_takes b.0.1 c.0.0 c.0.1 tb.0.rest_fits c.1 in
    let td = number_takes 8 c.0.1 d.0.0 d.0.1 tc.0.rest_fits d.1 in
    let tf = multi_takes d.0.1 f.0.0 f.0.1 td.0.rest_fits f.1 in
    let th = number_takes 8 f.0.1 h.0.0 h.0.1 tf.0.rest_fits h.1 in
    let e5 = Takes-then d.0.1 (le_bytes 8 f.0.0) f.0.1 (le_bytes 8 h.0.0) h.0.1 tf.0 th.0 in
    let e4 = Takes-then c.0.1 (le_bytes 8 d.0.0) d.0.1 (le_bytes 8 f.0.0 ++ le_bytes 8 h.0.0) h.0.1 td.0 e5 in
    let e3 = Takes-then b.0.1 (le_bytes 8 c.0.0) c.0.1 (le_bytes 8 d.0.0 ++ (le_bytes 8 f.0.0 ++ le_bytes 8 h.0.0)) h.0.1 tc.0 e4 in
    let e2 = Takes-then a.0.1 (le_bytes 8 b.0.0) b.0.1 (le_bytes 8 c.0.0 ++ (le_bytes 8 d.0.0 ++ (le_bytes 8 f.0.0 ++ le_bytes 8 h.0.0))) h.0.1 tb.0 e3 in
    let e1 = Takes-then bytes (le_bytes 8 a.0.0) a.0.1 (le_bytes 8 b.0.0 ++ (le_bytes 8 c.0.0 ++ (le_bytes 8 d.0.0 ++ (le_bytes 8 f.0.0 ++ le_bytes 8 h.0.0)))) h.0.1 ta.0 e2 in
    let made : Counters × List ℕ = (record { next = a.0.0; oldest = b.0.0; multi = c.0.0; offset = d.0.0; oldest_multi = f.0.0; oldest_offset = h.0.0 }, h.0.1) in
    subst (λ (y : Counters × List ℕ). Takes bytes (counters_bytes y.0) y.1 × AreCounters y.0) (some_is made x h.2) (e1, record { next = ta.1; oldest = tb.1; multi = tc.1; offset = td.1; oldest_multi = tf.1; oldest_offset = th.1 })

counters_again : (c : Counters) (rest : List ℕ) → AreCounters c → counters_at (counters_bytes c ++ rest) ≡ Some (c, rest)
unfolding counters_at counters_bytes
counters_again c rest h =
    let x6 : List ℕ = le_bytes 8 c.oldest_offset ++ rest in
    let x5 : List ℕ = le_bytes 8 c.oldest_multi ++ x6 in
    let x4 : List ℕ = le_bytes 8 c.offset ++ x5 in
    let x3 : List ℕ = le_bytes 8 c.multi ++ x4 in
    let x2 : List ℕ = le_bytes 8 c.oldest ++ x3 in
    let regrouped : (le_bytes 8 c.next ++ (le_bytes 8 c.oldest ++ (le_bytes 8 c.multi ++ (le_bytes 8 c.offset ++ (le_bytes 8 c.oldest_multi ++ le_bytes 8 c.oldest_offset))))) ++ rest ≡ le_bytes 8 c.next ++ x2 = simp append_assoc in
    ap counters_at regrouped ∙ rw (id_again c.next x2 h.next, id_again c.oldest x3 h.oldest, multi_again c.multi x4 h.multi, number_again 8 c.offset x5 h.offset, multi_again c.oldest_multi x6 h.oldest_multi, number_again 8 c.oldest_offset rest h.oldest_offset) refl

-- ---- records

-- the record that was read, and the bytes after it
abbrev pub RecTakes : List ℕ → Rec × List ℕ → Type 0
RecTakes bytes x = Takes bytes (rec_bytes x.0) x.1 × IsLawful x.0

commit_takes : (bytes : List ℕ) (x : Rec × List ℕ) → IsBytes bytes → commit_at bytes ≡ Some x → RecTakes (1 ∷ bytes) x
unfolding commit_at
commit_takes bytes x fits e =
    let a = bind_some (tree_at bytes) (λ tree. Some (records.Commit tree.0.0 tree.0.1, tree.1)) x e in
    let t = tree_takes bytes a.0 fits a.1 in
    let made : Rec × List ℕ = (records.Commit a.0.0.0 a.0.0.1, a.0.1) in
    subst (RecTakes (1 ∷ bytes)) (some_is made x a.2) (record { parts = ap (λ (l : List ℕ). 1 ∷ l) t.0.parts; rest_fits = t.0.rest_fits }, t.1)

abort_takes : (bytes : List ℕ) (x : Rec × List ℕ) → IsBytes bytes → abort_at bytes ≡ Some x → RecTakes (2 ∷ bytes) x
unfolding abort_at
abort_takes bytes x fits e =
    let a = bind_some (tree_at bytes) (λ tree. Some (records.Abort tree.0.0 tree.0.1, tree.1)) x e in
    let t = tree_takes bytes a.0 fits a.1 in
    let made : Rec × List ℕ = (records.Abort a.0.0.0 a.0.0.1, a.0.1) in
    subst (RecTakes (2 ∷ bytes)) (some_is made x a.2) (record { parts = ap (λ (l : List ℕ). 2 ∷ l) t.0.parts; rest_fits = t.0.rest_fits }, t.1)

checkpoint_takes : (bytes : List ℕ) (x : Rec × List ℕ) → IsBytes bytes → checkpoint_at bytes ≡ Some x → RecTakes (4 ∷ bytes) x
unfolding checkpoint_at
checkpoint_takes bytes x fits e =
    let a = bind_some (number_at 8 bytes) (λ number. counters_at number.1 >>= λ counters. Some (records.Checkpoint number.0 counters.0, counters.1)) x e in
    let b = bind_some (counters_at a.0.1) (λ counters. Some (records.Checkpoint a.0.0 counters.0, counters.1)) x a.2 in
    let t0 = number_takes 8 bytes a.0.0 a.0.1 fits a.1 in
    let t1 = counters_takes a.0.1 b.0 t0.0.rest_fits b.1 in
    let both = Takes-then bytes (le_bytes 8 a.0.0) a.0.1 (counters_bytes b.0.0) b.0.1 t0.0 t1.0 in
    let made : Rec × List ℕ = (records.Checkpoint a.0.0 b.0.0, b.0.1) in
    subst (RecTakes (4 ∷ bytes)) (some_is made x b.2) (record { parts = ap (λ (l : List ℕ). 4 ∷ l) both.parts; rest_fits = both.rest_fits }, (t0.1, t1.1))

truncate_takes : (bytes : List ℕ) (x : Rec × List ℕ) → IsBytes bytes → truncate_at bytes ≡ Some x → RecTakes (5 ∷ bytes) x
unfolding truncate_at truncate_bytes
truncate_takes bytes x fits e =
    let a = bind_some (id_at bytes) (λ oldest. multi_at oldest.1 >>= λ multi. number_at 8 multi.1 >>= λ offset. Some (records.Truncate oldest.0 multi.0 offset.0, offset.1)) x e in
    let b = bind_some (multi_at a.0.1) (λ multi. number_at 8 multi.1 >>= λ offset. Some (records.Truncate a.0.0 multi.0 offset.0, offset.1)) x a.2 in
    let c = bind_some (number_at 8 b.0.1) (λ offset. Some (records.Truncate a.0.0 b.0.0 offset.0, offset.1)) x b.2 in
    let t0 = id_takes bytes a.0.0 a.0.1 fits a.1 in
    let t1 = multi_takes a.0.1 b.0.0 b.0.1 t0.0.rest_fits b.1 in
    let t2 = number_takes 8 b.0.1 c.0.0 c.0.1 t1.0.rest_fits c.1 in
    let e12 = Takes-then a.0.1 (le_bytes 8 b.0.0) b.0.1 (le_bytes 8 c.0.0) c.0.1 t1.0 t2.0 in
    let both = Takes-then bytes (le_bytes 8 a.0.0) a.0.1 (le_bytes 8 b.0.0 ++ le_bytes 8 c.0.0) c.0.1 t0.0 e12 in
    let made : Rec × List ℕ = (records.Truncate a.0.0 b.0.0 c.0.0, c.0.1) in
    subst (RecTakes (5 ∷ bytes)) (some_is made x c.2) (record { parts = ap (λ (l : List ℕ). 5 ∷ l) both.parts; rest_fits = both.rest_fits }, record { oldest = t0.1; multi = t1.1; offset = t2.1 })

-- what is read is lawful and spelled so
pub rec_takes : (bytes : List ℕ) (x : Rec × List ℕ) → IsBytes bytes → rec_at bytes ≡ Some x → RecTakes bytes x
unfolding rec_at
rec_takes [] x fits e = absurd cc
rec_takes (zero ∷ bytes) x fits e = absurd cc
rec_takes (suc zero ∷ bytes) x fits e = commit_takes bytes x (IsBytes-rest 1 bytes fits) e
rec_takes (suc (suc zero) ∷ bytes) x fits e = abort_takes bytes x (IsBytes-rest 2 bytes fits) e
rec_takes (suc (suc (suc zero)) ∷ bytes) x fits e = multi_rec_takes bytes x (IsBytes-rest 3 bytes fits) e
rec_takes (suc (suc (suc (suc zero))) ∷ bytes) x fits e = checkpoint_takes bytes x (IsBytes-rest 4 bytes fits) e
rec_takes (suc (suc (suc (suc (suc zero)))) ∷ bytes) x fits e = truncate_takes bytes x (IsBytes-rest 5 bytes fits) e
rec_takes (suc (suc (suc (suc (suc (suc n))))) ∷ bytes) x fits e = absurd cc

commit_again : (top : ℕ) (subs rest : List ℕ) → IsTree top subs → commit_at (tree_bytes top subs ++ rest) ≡ Some (records.Commit top subs, rest)
unfolding commit_at
commit_again top subs rest h = rw (tree_again top subs rest h) refl

abort_again : (top : ℕ) (subs rest : List ℕ) → IsTree top subs → abort_at (tree_bytes top subs ++ rest) ≡ Some (records.Abort top subs, rest)
unfolding abort_at
abort_again top subs rest h = rw (tree_again top subs rest h) refl

checkpoint_again : (number : ℕ) (c : Counters) (rest : List ℕ) → (number < 2 ^ 64) × AreCounters c → checkpoint_at ((le_bytes 8 number ++ counters_bytes c) ++ rest) ≡ Some (records.Checkpoint number c, rest)
unfolding checkpoint_at
checkpoint_again number c rest h =
    ap checkpoint_at (append_assoc (le_bytes 8 number) (counters_bytes c) rest) ∙ rw (number_again 8 number (counters_bytes c ++ rest) h.0, counters_again c rest h.1) refl

truncate_again : (oldest multi offset : ℕ) (rest : List ℕ) → IsTruncate oldest multi offset → truncate_at (truncate_bytes oldest multi offset ++ rest) ≡ Some (records.Truncate oldest multi offset, rest)
unfolding truncate_at truncate_bytes
truncate_again oldest multi offset rest h =
    let x2 : List ℕ = le_bytes 8 offset ++ rest in
    let regrouped : (le_bytes 8 oldest ++ (le_bytes 8 multi ++ le_bytes 8 offset)) ++ rest ≡ le_bytes 8 oldest ++ (le_bytes 8 multi ++ x2) = simp append_assoc in
    ap truncate_at regrouped ∙ rw (id_again oldest (le_bytes 8 multi ++ x2) h.oldest, multi_again multi x2 h.multi, number_again 8 offset rest h.offset) refl

-- what is lawful and spelled is read
pub rec_again : (r : Rec) (rest : List ℕ) → IsLawful r → rec_at (rec_bytes r ++ rest) ≡ Some (r, rest)
unfolding rec_at
rec_again (records.Commit top subs) rest h = commit_again top subs rest h
rec_again (records.Abort top subs) rest h = abort_again top subs rest h
rec_again (records.Multi multi offset members) rest h = multi_rec_again multi offset members rest h
rec_again (records.Checkpoint number counters) rest h = checkpoint_again number counters rest h
rec_again (records.Truncate oldest multi offset) rest h = truncate_again oldest multi offset rest h
