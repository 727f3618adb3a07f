-- Which bytes are named, by lists of records and of members.
use Rattle.std.proofs.Common.{◌≡◌, ◌⊎◌, true, inl, inr, ⊎_elim, ℕ, zero, suc, ◌+◌, ◌%◌, ◌<◌, ◌≤◌, ◌^◌, List, [], ◌∷◌, ◌++◌, length, take, get_or, Some, Contains, refl, sym, ap, subst, arith, ◌∙◌}
use Rattle.std.specs.List.{slice_get}
use Rattle.std.proofs.lemmas.List.{take_more}
use Rattle.tx_events.proofs.Membership.{Has, contains_has, has_cases, has_contains}
use Rattle.tx_events.proofs.PlaceLemmas.{slice_get-push}
use Rattle.tx_events.proofs.ListSteps.{not_both}
use Rattle.tx_events.specs.PageOrder.{Multis, Offsets, is_cut}
use Rattle.tx_events.specs.PageWindow.{member_is_kept, multi_is_kept}
use Rattle.tx_events.specs.declared.multi.Member.{Member}
use Rattle.tx_events.specs.declared.record.Rec.{Rec}
use Rattle.tx_events.specs.declared.record.Rec.TheVariants as records
use Rattle.store_pages.specs.Layouts.{member_page_of, word_page_of}
use Rattle.replay_multis.specs.declared.share.Share.{Share}
use Rattle.replay_multis.specs.Named.{AreMembersBelow, AreMultisNear, IsMemberByte, IsOffsetByte, IsRunByte, IsSlotByte, IsWordByte}

-- ---- beginnings of lists

module _ {X : Type 0} where
  pub take_at : (xs : List X) (i : ℕ) (x : X) → i < length xs → x ≡ get_or xs i x → take (i + 1) xs ≡ take i xs ++ x ∷ []
  take_at xs i x lt e = take_more xs i x lt ∙ ap (λ (z : X). take i xs ++ z ∷ []) (sym e)

  pub take_whole : (xs : List X) (n : ℕ) → n ≡ length xs → take n xs ≡ xs
  take_whole xs n e = ap (λ k. take k xs) e ∙ whole xs
    where
      whole : (xs : List X) → take (length xs) xs ≡ xs
      whole [] = refl
      whole (x ∷ xs) = ap (λ (t : List X). x ∷ t) (whole xs)

  pub has_item : (xs : List X) (i : ℕ) (x : X) → i < length xs → x ≡ get_or xs i x → (y : X) → Has (x ∷ []) y → Has xs y
  has_item xs i x lt e y h = ⊎_elim (λ (q : x ≡ y). subst (Has xs) q (contains_has xs x (i, lt, sym e))) (λ z. absurd z) h

  pub item_at : (xs : List X) (i : ℕ) (x : X) → i < length xs → x ≡ get_or xs i x → slice_get xs i ≡ Some x
  item_at [] i x lt e = absurd (omega arith)
  item_at (y ∷ ys) zero x lt e = ap (λ (z : X). Some z) (sym e)
  item_at (y ∷ ys) (suc i) x lt e = item_at ys i x (omega arith) e

  pub taken_at : (n : ℕ) (xs : List X) (i : ℕ) (x : X) → slice_get (take n xs) i ≡ Some x → slice_get xs i ≡ Some x
  taken_at zero xs i x e = absurd cc
  taken_at (suc n) [] i x e = absurd cc
  taken_at (suc n) (y ∷ ys) zero x e = e
  taken_at (suc n) (y ∷ ys) (suc i) x e = taken_at n ys i x e

  pub front_at : (xs ys : List X) (i : ℕ) (x : X) → slice_get xs i ≡ Some x → slice_get (xs ++ ys) i ≡ Some x
  front_at [] ys i x e = absurd cc
  front_at (y ∷ xs) ys zero x e = e
  front_at (y ∷ xs) ys (suc i) x e = front_at xs ys i x e

  pub last_at : (xs : List X) (x : X) → slice_get (xs ++ x ∷ []) (length xs) ≡ Some x
  last_at [] x = refl
  last_at (y ∷ xs) x = last_at xs x

-- ---- offsets

module _ (share : Share) (oldest : ℕ) where
  pub offsets_in : (xs ys : List Rec) → ((rec : Rec) → Has xs rec → Has ys rec) → (q i b : ℕ) → IsOffsetByte share oldest xs q i b → IsOffsetByte share oldest ys q i b
  offsets_in xs ys more q i b h = record {
    multi = h.multi;
    offset = h.offset;
    members = h.members;
    among = has_contains ys (records.Multi h.multi h.offset h.members) (more (records.Multi h.multi h.offset h.members) (contains_has xs (records.Multi h.multi h.offset h.members) h.among));
    from = h.from;
    on = h.on;
    word = h.word;
  }

  pub offsets_cases : (xs ys : List Rec) (q i b : ℕ) → IsOffsetByte share oldest (xs ++ ys) q i b → IsOffsetByte share oldest xs q i b ⊎ IsOffsetByte share oldest ys q i b
  offsets_cases xs ys q i b h = ⊎_elim
      (λ k. inl (record { multi = h.multi; offset = h.offset; members = h.members; among = has_contains xs (records.Multi h.multi h.offset h.members) k; from = h.from; on = h.on; word = h.word }))
      (λ k. inr (record { multi = h.multi; offset = h.offset; members = h.members; among = has_contains ys (records.Multi h.multi h.offset h.members) k; from = h.from; on = h.on; word = h.word }))
      (has_cases xs ys (records.Multi h.multi h.offset h.members) (contains_has (xs ++ ys) (records.Multi h.multi h.offset h.members) h.among))

  pub offsets_none : (q i b : ℕ) → IsOffsetByte share oldest [] q i b → ⊥
  offsets_none q i b h = contains_has [] (records.Multi h.multi h.offset h.members) h.among

-- what a list of one record names
pub only_rec : (rec x : Rec) → Contains (rec ∷ []) x → rec ≡ x
only_rec rec x c = ⊎_elim (λ (e : rec ≡ x). e) (λ z. absurd z) (contains_has (rec ∷ []) x c)

multi_of : {m n x y : ℕ} {ms ns : List Member} → records.Multi m x ms ≡ records.Multi n y ns → (m ≡ n) × (x ≡ y) × (ms ≡ ns)
multi_of e = (cc, cc, cc)

module _ (share : Share) (oldest : ℕ) (rec : Rec) (multi offset : ℕ) (members : List Member) (is : rec ≡ records.Multi multi offset members) where
  pub its_word : oldest ≤ multi → word_page_of multi % share.banks ≡ share.bank → (q i b : ℕ) → IsWordByte multi offset q i b → IsOffsetByte share oldest (rec ∷ []) q i b
  its_word from on q i b w = record { multi = multi; offset = offset; members = members; among = (0, omega arith, is); from = from; on = on; word = w }

  pub word_of : (q i b : ℕ) → IsOffsetByte share oldest (rec ∷ []) q i b → (oldest ≤ multi) × (word_page_of multi % share.banks ≡ share.bank) × IsWordByte multi offset q i b
  word_of q i b h =
      let e = multi_of (sym (only_rec rec (records.Multi h.multi h.offset h.members) h.among) ∙ is) in (
        subst (λ z. oldest ≤ z) e.0 h.from,
        subst (λ z. word_page_of z % share.banks ≡ share.bank) e.0 h.on,
        subst (λ z. IsWordByte z offset q i b) e.0 (subst (λ z. IsWordByte h.multi z q i b) e.1 h.word),
      )

  pub its_members : (low : ℕ) → oldest ≤ multi → (q i b : ℕ) → IsRunByte share low offset members q i b → IsMemberByte share oldest low (rec ∷ []) q i b
  its_members low from q i b run = record { multi = multi; offset = offset; members = members; among = (0, omega arith, is); from = from; run = run }

  pub members_of : (low q i b : ℕ) → IsMemberByte share oldest low (rec ∷ []) q i b → (oldest ≤ multi) × IsRunByte share low offset members q i b
  members_of low q i b h =
      let e = multi_of (sym (only_rec rec (records.Multi h.multi h.offset h.members) h.among) ∙ is) in (
        subst (λ z. oldest ≤ z) e.0 h.from,
        subst (λ z. IsRunByte share low z members q i b) e.1 (subst (λ z. IsRunByte share low h.offset z q i b) e.2 h.run),
      )

-- a record of another kind names nothing
pub no_word : (share : Share) (oldest : ℕ) (rec : Rec) → ((multi offset : ℕ) (members : List Member) → rec ≡ records.Multi multi offset members → ⊥) → (q i b : ℕ) → IsOffsetByte share oldest (rec ∷ []) q i b → ⊥
no_word share oldest rec other q i b h = other h.multi h.offset h.members (only_rec rec (records.Multi h.multi h.offset h.members) h.among)

pub no_members : (share : Share) (oldest low : ℕ) (rec : Rec) → ((multi offset : ℕ) (members : List Member) → rec ≡ records.Multi multi offset members → ⊥) → (q i b : ℕ) → IsMemberByte share oldest low (rec ∷ []) q i b → ⊥
no_members share oldest low rec other q i b h = other h.multi h.offset h.members (only_rec rec (records.Multi h.multi h.offset h.members) h.among)

pub near_in : (oldest : ℕ) (xs ys : List Rec) → ((rec : Rec) → Has xs rec → Has ys rec) → AreMultisNear oldest ys → AreMultisNear oldest xs
near_in oldest xs ys more near m x ms c = near m x ms (has_contains ys (records.Multi m x ms) (more (records.Multi m x ms) (contains_has xs (records.Multi m x ms) c)))

pub below_in : (next : ℕ) (xs ys : List Rec) → ((rec : Rec) → Has xs rec → Has ys rec) → AreMembersBelow next ys → AreMembersBelow next xs
below_in next xs ys more below m x ms c = below m x ms (has_contains ys (records.Multi m x ms) (more (records.Multi m x ms) (contains_has xs (records.Multi m x ms) c)))

-- ---- members

module _ (share : Share) (oldest low : ℕ) where
  pub members_in : (xs ys : List Rec) → ((rec : Rec) → Has xs rec → Has ys rec) → (q i b : ℕ) → IsMemberByte share oldest low xs q i b → IsMemberByte share oldest low ys q i b
  members_in xs ys more q i b h = record {
    multi = h.multi;
    offset = h.offset;
    members = h.members;
    among = has_contains ys (records.Multi h.multi h.offset h.members) (more (records.Multi h.multi h.offset h.members) (contains_has xs (records.Multi h.multi h.offset h.members) h.among));
    from = h.from;
    run = h.run;
  }

  pub members_cases : (xs ys : List Rec) (q i b : ℕ) → IsMemberByte share oldest low (xs ++ ys) q i b → IsMemberByte share oldest low xs q i b ⊎ IsMemberByte share oldest low ys q i b
  members_cases xs ys q i b h = ⊎_elim
      (λ k. inl (record { multi = h.multi; offset = h.offset; members = h.members; among = has_contains xs (records.Multi h.multi h.offset h.members) k; from = h.from; run = h.run }))
      (λ k. inr (record { multi = h.multi; offset = h.offset; members = h.members; among = has_contains ys (records.Multi h.multi h.offset h.members) k; from = h.from; run = h.run }))
      (has_cases xs ys (records.Multi h.multi h.offset h.members) (contains_has (xs ++ ys) (records.Multi h.multi h.offset h.members) h.among))

  pub members_none : (q i b : ℕ) → IsMemberByte share oldest low [] q i b → ⊥
  members_none q i b h = contains_has [] (records.Multi h.multi h.offset h.members) h.among

module _ (share : Share) (low offset : ℕ) where
  pub run_none : (q i b : ℕ) → IsRunByte share low offset [] q i b → ⊥
  run_none q i b h = absurd_none h.n h.member h.at
    where
      absurd_none : (n : ℕ) (m : Member) → slice_get [] n ≡ Some m → ⊥
      absurd_none n m e = absurd cc

  pub run_in : (xs ys : List Member) → ((n : ℕ) (m : Member) → slice_get xs n ≡ Some m → slice_get ys n ≡ Some m) → (q i b : ℕ) → IsRunByte share low offset xs q i b → IsRunByte share low offset ys q i b
  run_in xs ys more q i b h = record { n = h.n; member = h.member; at = more h.n h.member h.at; from = h.from; on = h.on; slot = h.slot }

  -- one more
  pub run_last : (xs : List Member) (k : ℕ) (m : Member) → k ≡ length xs → (q i b : ℕ) → IsRunByte share low (offset + k) (m ∷ []) q i b → IsRunByte share low offset (xs ++ m ∷ []) q i b
  run_last xs k m e q i b h =
      let first = one h.n h.member h.at in
      let place : offset + k + h.n ≡ offset + length xs = let z = first.0 in omega (arith, e, z) in
      record {
        n = length xs;
        member = m;
        at = last_at xs m;
        from = subst (λ z. low ≤ z) place h.from;
        on = subst (λ z. member_page_of z % share.banks ≡ share.bank) place h.on;
        slot = subst (λ z. IsSlotByte z m q i b) place (subst (λ z. IsSlotByte (offset + k + h.n) z q i b) (sym first.1) h.slot);
      }
    where
      one : (n : ℕ) (x : Member) → slice_get (m ∷ []) n ≡ Some x → (n ≡ 0) × (m ≡ x)
      one zero x e = (refl, cc)
      one (suc n) x e = absurd cc

  pub run_cases : (xs : List Member) (k : ℕ) (m : Member) → k ≡ length xs → (q i b : ℕ) → IsRunByte share low offset (xs ++ m ∷ []) q i b → IsRunByte share low offset xs q i b ⊎ IsRunByte share low (offset + k) (m ∷ []) q i b
  run_cases xs k m e q i b h = ⊎_elim
      (λ (l : (h.n < length xs) × (slice_get xs h.n ≡ Some h.member)). inl (record { n = h.n; member = h.member; at = l.1; from = h.from; on = h.on; slot = h.slot }))
      (λ (r : (h.n ≡ length xs) × (m ≡ h.member)).
      let place : offset + h.n ≡ offset + k + 0 = let z = r.0 in omega (arith, e, z) in
      inr (record {
        n = 0;
        member = m;
        at = refl;
        from = subst (λ z. low ≤ z) place h.from;
        on = subst (λ z. member_page_of z % share.banks ≡ share.bank) place h.on;
        slot = subst (λ z. IsSlotByte z m q i b) place (subst (λ z. IsSlotByte (offset + h.n) z q i b) (sym r.1) h.slot);
      }))
      (slice_get-push xs m h.member h.n h.at)

  -- a slot of one member
  pub its_slot : (m : Member) → low ≤ offset → member_page_of offset % share.banks ≡ share.bank → (q i b : ℕ) → IsSlotByte offset m q i b → IsRunByte share low offset (m ∷ []) q i b
  its_slot m from on q i b s =
      let e : offset ≡ offset + 0 = omega arith in
      record { n = 0; member = m; at = refl; from = omega (arith, from); on = subst (λ z. member_page_of z % share.banks ≡ share.bank) e on; slot = subst (λ z. IsSlotByte z m q i b) e s }

  pub slot_of : (m : Member) (q i b : ℕ) → IsRunByte share low offset (m ∷ []) q i b → (low ≤ offset) × (member_page_of offset % share.banks ≡ share.bank) × IsSlotByte offset m q i b
  slot_of m q i b h =
      let first = one h.n h.member h.at in
      let e : offset + h.n ≡ offset = let z = first.0 in omega (arith, z) in (
        subst (λ z. low ≤ z) e h.from,
        subst (λ z. member_page_of z % share.banks ≡ share.bank) e h.on,
        subst (λ z. IsSlotByte z m q i b) e (subst (λ z. IsSlotByte (offset + h.n) z q i b) (sym first.1) h.slot),
      )
    where
      one : (n : ℕ) (x : Member) → slice_get (m ∷ []) n ≡ Some x → (n ≡ 0) × (m ≡ x)
      one zero x e = (refl, cc)
      one (suc n) x e = absurd cc

-- ---- pages of the window aren't cut

pub multi_kept : (oldest multi : ℕ) → oldest ≤ multi → multi + 2 ^ 15 < oldest + 2 ^ 31 → is_cut Multis 2048 (word_page_of oldest) (word_page_of multi) ≡ true → ⊥
multi_kept oldest multi from near cut = not_both (is_cut Multis 2048 (word_page_of oldest) (word_page_of multi)) cut (multi_is_kept oldest multi from near)

pub offset_kept : (low offset : ℕ) → low ≤ offset → offset + 2 ^ 15 < low + 2 ^ 31 → is_cut Offsets 1636 (member_page_of low) (member_page_of offset) ≡ true → ⊥
offset_kept low offset from near cut = not_both (is_cut Offsets 1636 (member_page_of low) (member_page_of offset)) cut (member_is_kept low offset from near)
