-- What the test of a record meets.
use Rattle.std.proofs.Common.{◌≡◌, ◌⊎◌, inl, inr, ℕ, ◌+◌, ◌<◌, ◌≤◌, Bool, true, false, ◌&&◌, List, [], ◌∷◌, ◌++◌, drop, length, get_or, refl, sym, ◌∙◌, ap, ltb}
use Rattle.std.specs.Prelude.{IsTrue, ◌↔◌}
use Rattle.std.specs.List.{AllByRecursion}
use Rattle.std.proofs.lemmas.List.{drop_more}
use Rattle.std.proofs.lemmas.Bool.{leb-true, le-leb, ltb-true, lt-ltb, le-ltb, and_parts, and_from}
use Rattle.tx_events.specs.declared.record.Rec.{Rec}
use Rattle.tx_events.specs.declared.record.Rec.TheVariants as records
use Rattle.tx_events.specs.declared.multi.Member.{Member}
use Rattle.wal_records.specs.Spelling.{IsLawful, AscendsFrom, IsId, IsMulti, HasCounts}
use Rattle.wal_records.specs.Lawful.{is_id, is_multi, ascend_from, all_ids, is_lawful, are_lawful}

ascends : (last : ℕ) (ids : List ℕ) → ascend_from last ids ≡ true → AscendsFrom last ids
ascends last [] e = tt
ascends last (x ∷ xs) e = let a = and_parts _ _ e in let b = and_parts _ _ a.1 in let i = and_parts _ _ b.0 in (ltb-true _ _ a.0, ((leb-true _ _ i.0, ltb-true _ _ i.1), ascends x xs b.1))

do_ascend : (last : ℕ) (ids : List ℕ) → AscendsFrom last ids → ascend_from last ids ≡ true
do_ascend last [] a = refl
do_ascend last (x ∷ xs) a = and_from _ _ (lt-ltb _ _ a.0) (and_from _ _ (and_from _ _ (le-leb _ _ a.1.0.0) (lt-ltb _ _ a.1.0.1)) (do_ascend x xs a.1.1))

are_ids : (ms : List Member) → all_ids ms ≡ true → AllByRecursion (λ m. IsId m.id) ms
are_ids [] e = tt
are_ids (m ∷ ms) e = let a = and_parts _ _ e in let i = and_parts _ _ a.0 in ((leb-true _ _ i.0, ltb-true _ _ i.1), are_ids ms a.1)

ids_pass : (ms : List Member) → AllByRecursion (λ m. IsId m.id) ms → all_ids ms ≡ true
ids_pass [] a = refl
ids_pass (m ∷ ms) a = and_from _ _ (and_from _ _ (le-leb _ _ a.0.0) (lt-ltb _ _ a.0.1)) (ids_pass ms a.1)

id_if : (n : ℕ) → is_id n ≡ true → IsId n
id_if n e = let i = and_parts _ _ e in (leb-true _ _ i.0, ltb-true _ _ i.1)

id_passes : (n : ℕ) → IsId n → is_id n ≡ true
id_passes n i = and_from _ _ (le-leb _ _ i.0) (lt-ltb _ _ i.1)

multi_if : (n : ℕ) → is_multi n ≡ true → IsMulti n
multi_if n e = let i = and_parts _ _ e in (leb-true _ _ i.0, ltb-true _ _ i.1)

multi_passes : (n : ℕ) → IsMulti n → is_multi n ≡ true
multi_passes n i = and_from _ _ (le-leb _ _ i.0) (lt-ltb _ _ i.1)

pub lawful_if : (r : Rec) → is_lawful r ≡ true → IsLawful r
lawful_if (records.Commit top subs) e = let a = and_parts _ _ e in let b = and_parts _ _ a.1 in record { top = id_if top a.0; few = ltb-true _ _ b.0; subs = ascends top subs b.1 }
lawful_if (records.Abort top subs) e = let a = and_parts _ _ e in let b = and_parts _ _ a.1 in record { top = id_if top a.0; few = ltb-true _ _ b.0; subs = ascends top subs b.1 }
lawful_if (records.Multi multi offset members) e =
    let a = and_parts _ _ e in let b = and_parts _ _ a.1 in let c = and_parts _ _ b.1 in let d = and_parts _ _ c.1 in
    record { multi = multi_if multi a.0; offset = ltb-true _ _ b.0; some = leb-true _ _ c.0; few = leb-true _ _ d.0; ids = are_ids members d.1 }
lawful_if (records.Checkpoint number n) e =
    let a = and_parts _ _ e in let b = and_parts _ _ a.1 in let c = and_parts _ _ b.1 in let d = and_parts _ _ c.1 in let f = and_parts _ _ d.1 in let g = and_parts _ _ f.1 in
    (ltb-true _ _ a.0, record { next = id_if n.next b.0; oldest = id_if n.oldest c.0; multi = multi_if n.multi d.0; offset = ltb-true _ _ f.0; oldest_multi = multi_if n.oldest_multi g.0; oldest_offset = ltb-true _ _ g.1 })
lawful_if (records.Truncate oldest multi offset) e =
    let a = and_parts _ _ e in let b = and_parts _ _ a.1 in record { oldest = id_if oldest a.0; multi = multi_if multi b.0; offset = ltb-true _ _ b.1 }

pub lawful_passes : (r : Rec) → IsLawful r → is_lawful r ≡ true
lawful_passes (records.Commit top subs) l = and_from _ _ (id_passes top l.top) (and_from _ _ (lt-ltb _ _ l.few) (do_ascend top subs l.subs))
lawful_passes (records.Abort top subs) l = and_from _ _ (id_passes top l.top) (and_from _ _ (lt-ltb _ _ l.few) (do_ascend top subs l.subs))
lawful_passes (records.Multi multi offset members) l =
    and_from _ _ (multi_passes multi l.multi) (and_from _ _ (lt-ltb _ _ l.offset) (and_from _ _ (le-leb _ _ l.some) (and_from _ _ (le-leb _ _ l.few) (ids_pass members l.ids))))
lawful_passes (records.Checkpoint number n) l =
    and_from _ _ (lt-ltb _ _ l.0) (and_from _ _ (id_passes n.next l.1.next) (and_from _ _ (id_passes n.oldest l.1.oldest) (and_from _ _ (multi_passes n.multi l.1.multi)
    (and_from _ _ (lt-ltb _ _ l.1.offset) (and_from _ _ (multi_passes n.oldest_multi l.1.oldest_multi) (lt-ltb _ _ l.1.oldest_offset))))))
lawful_passes (records.Truncate oldest multi offset) l = and_from _ _ (id_passes oldest l.oldest) (and_from _ _ (multi_passes multi l.multi) (lt-ltb _ _ l.offset))

-- the test is right
pub lawful_test : (b : Bool) (r : Rec) → b ≡ is_lawful r → IsTrue b ↔ IsLawful r
lawful_test b r is = (λ yes. lawful_if r (sym is ∙ yes), λ lawful. is ∙ lawful_passes r lawful)

pub all_lawful : (recs : List Rec) → are_lawful recs ≡ true → AllByRecursion IsLawful recs
all_lawful [] e = tt
all_lawful (r ∷ recs) e = let a = and_parts _ _ e in (lawful_if r a.0, all_lawful recs a.1)

pub lawful-push : (recs : List Rec) (r : Rec) → are_lawful recs ≡ true → IsLawful r → are_lawful (recs ++ r ∷ []) ≡ true
lawful-push [] r e l = and_from _ _ (lawful_passes r l) refl
lawful-push (s ∷ recs) r e l = let a = and_parts _ _ e in and_from _ _ a.0 (lawful-push recs r a.1 l)

pub has_counts : (r : Rec) → IsLawful r → HasCounts r
has_counts (records.Commit top subs) l = l.few
has_counts (records.Abort top subs) l = l.few
has_counts (records.Multi multi offset members) l = l.few
has_counts (records.Checkpoint number n) l = tt
has_counts (records.Truncate oldest multi offset) l = tt

-- ---- where the loops of the test stop

no_left : (a b : Bool) → a ≡ false → (a && b) ≡ false
no_left true b e = absurd cc
no_left false b e = refl

no_middle : (a b c : Bool) → b ≡ false → (a && (b && c)) ≡ false
no_middle true b c e = no_left b c e
no_middle false b c e = refl

pub not_all_ids : (ms : List Member) (i : ℕ) (d : Member) → i < length ms → is_id (get_or ms i d).id ≡ false → all_ids (drop i ms) ≡ false
not_all_ids ms i d lt e = ap all_ids (drop_more ms i d lt) ∙ no_left (is_id (get_or ms i d).id) (all_ids (drop (i + 1) ms)) e

pub not_ascending : (last : ℕ) (ids : List ℕ) (i d : ℕ) → i < length ids → (get_or ids i d ≤ last) ⊎ (is_id (get_or ids i d) ≡ false) → ascend_from last (drop i ids) ≡ false
not_ascending last ids i d lt (inl le) =
    let x : ℕ = get_or ids i d in
    ap (ascend_from last) (drop_more ids i d lt) ∙ no_left (ltb last x) (is_id x && ascend_from x (drop (i + 1) ids)) (le-ltb last x le)
not_ascending last ids i d lt (inr e) =
    let x : ℕ = get_or ids i d in
    ap (ascend_from last) (drop_more ids i d lt) ∙ no_middle (ltb last x) (is_id x) (ascend_from x (drop (i + 1) ids)) e
