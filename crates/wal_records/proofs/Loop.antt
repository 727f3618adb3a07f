-- Reading items one after the other, as a loop does.
use Rattle.std.proofs.Common.{◌≡◌, ℕ, suc, ◌-◌, ◌+◌, ◌≤◌, ◌<◌, List, [], ◌∷◌, ◌++◌, Option, Some, None, true, false, ltb, refl, sym, ap, ◌∙◌, append_assoc, arith}
use Rattle.std.proofs.lemmas.List.{append-nil}
use Rattle.std.proofs.lemmas.Bool.{lt-ltb, le-ltb}
use Rattle.tx_events.specs.declared.multi.Member.{Member}
use Rattle.wal_records.specs.declared.stop.Stop.{Stop}
use Rattle.wal_records.specs.declared.stop.Stop.TheVariants as stops
use Rattle.wal_records.specs.Reading.{◌>>=◌, Stops, id_at, ids_at, member_at, members_at}

-- what was read before, and what is still read
abbrev pub with_front : {X : Type 0} → List X → Option (List X × List ℕ) → Option (List X × List ℕ)
with_front front read = read >>= λ x. Some (front ++ x.0, x.1)

regroup : {X : Type 0} (front : List X) (n : X) (read : Option (List X × List ℕ)) → with_front front (read >>= λ x. Some (n ∷ x.0, x.1)) ≡ with_front (front ++ n ∷ []) read
regroup {X = X} front n (Some x) = ap (λ (ns : List X). Some (ns, x.1)) (simp append_assoc)
regroup front n None = refl

pub ids_go_on : (front : List ℕ) (count i last : ℕ) (bytes : List ℕ) (n : ℕ) (after : List ℕ) (total : Option (List ℕ × List ℕ)) → i < count → id_at bytes ≡ Some (n, after) → last < n
    → with_front front (ids_at (count - i) last bytes) ≡ total → with_front (front ++ n ∷ []) (ids_at (count - (i + 1)) n after) ≡ total
unfolding ids_at
ids_go_on front count i last bytes n after total lt h above so_far =
    let k : count - i ≡ suc (count - (i + 1)) = omega arith in
    let test : ltb last n ≡ true = lt-ltb _ _ above in
    let one : with_front front (ids_at (count - i) last bytes) ≡ with_front (front ++ n ∷ []) (ids_at (count - (i + 1)) n after) = rw (k, h, test) (regroup front n (ids_at (count - (i + 1)) n after)) in
    sym one ∙ so_far

pub ids_end : (e : Stop) (front : List ℕ) (count i last : ℕ) (bytes : List ℕ) (total : Option (List ℕ × List ℕ)) → i < count → Stops e (id_at bytes)
    → with_front front (ids_at (count - i) last bytes) ≡ total → Stops e total
unfolding ids_at
ids_end stops.Memory front count i last bytes total lt h so_far = tt
ids_end stops.Unlawful front count i last bytes total lt h so_far =
    let k : count - i ≡ suc (count - (i + 1)) = omega arith in
    let one : with_front front (ids_at (count - i) last bytes) ≡ None = rw (k, h) refl in
    sym so_far ∙ one

pub ids_break : (front : List ℕ) (count i last : ℕ) (bytes : List ℕ) (n : ℕ) (after : List ℕ) (total : Option (List ℕ × List ℕ)) → i < count → id_at bytes ≡ Some (n, after) → n ≤ last
    → with_front front (ids_at (count - i) last bytes) ≡ total → total ≡ None
unfolding ids_at
ids_break front count i last bytes n after total lt h not_above so_far =
    let k : count - i ≡ suc (count - (i + 1)) = omega arith in
    let test : ltb last n ≡ false = le-ltb _ _ not_above in
    let one : with_front front (ids_at (count - i) last bytes) ≡ None = rw (k, h, test) refl in
    sym so_far ∙ one

pub ids_done : (front : List ℕ) (count i last : ℕ) (bytes : List ℕ) (total : Option (List ℕ × List ℕ)) → count ≤ i → with_front front (ids_at (count - i) last bytes) ≡ total → total ≡ Some (front, bytes)
unfolding ids_at
ids_done front count i last bytes total le so_far =
    let k : count - i ≡ 0 = omega arith in
    let one : with_front front (ids_at (count - i) last bytes) ≡ Some (front, bytes) = rw k (ap (λ (ns : List ℕ). Some (ns, bytes)) (append-nil front)) in
    sym so_far ∙ one

pub members_go_on : (front : List Member) (count i : ℕ) (bytes : List ℕ) (n : Member) (after : List ℕ) (total : Option (List Member × List ℕ)) → i < count → member_at bytes ≡ Some (n, after)
    → with_front front (members_at (count - i) bytes) ≡ total → with_front (front ++ n ∷ []) (members_at (count - (i + 1)) after) ≡ total
unfolding members_at
members_go_on front count i bytes n after total lt h so_far =
    let k : count - i ≡ suc (count - (i + 1)) = omega arith in
    let one : with_front front (members_at (count - i) bytes) ≡ with_front (front ++ n ∷ []) (members_at (count - (i + 1)) after) = rw (k, h) (regroup front n (members_at (count - (i + 1)) after)) in
    sym one ∙ so_far

pub members_end : (e : Stop) (front : List Member) (count i : ℕ) (bytes : List ℕ) (total : Option (List Member × List ℕ)) → i < count → Stops e (member_at bytes)
    → with_front front (members_at (count - i) bytes) ≡ total → Stops e total
unfolding members_at
members_end stops.Memory front count i bytes total lt h so_far = tt
members_end stops.Unlawful front count i bytes total lt h so_far =
    let k : count - i ≡ suc (count - (i + 1)) = omega arith in
    let one : with_front front (members_at (count - i) bytes) ≡ None = rw (k, h) refl in
    sym so_far ∙ one

pub members_done : (front : List Member) (count i : ℕ) (bytes : List ℕ) (total : Option (List Member × List ℕ)) → count ≤ i → with_front front (members_at (count - i) bytes) ≡ total → total ≡ Some (front, bytes)
unfolding members_at
members_done front count i bytes total le so_far =
    let k : count - i ≡ 0 = omega arith in
    let one : with_front front (members_at (count - i) bytes) ≡ Some (front, bytes) = rw k (ap (λ (ns : List Member). Some (ns, bytes)) (append-nil front)) in
    sym so_far ∙ one
