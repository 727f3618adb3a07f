-- What a fused media makes of what the media within gives.
use Rattle.std.proofs.Common.{◌≡◌, ℕ, suc, ◌+◌, ◌<◌, List, [], ◌∷◌, length, drop, Option, None, Result, Ok, Err, refl, sym, ◌∙◌, ap, arith, subst}
use Rattle.std.specs.Prelude.{slice_index, OnOk, OnErr, false, Bool, IsTrue}
use Rattle.std.proofs.lemmas.List.{drop_more, length-drop}
use Rattle.disk_core.specs.Images.{NoMore, Only}
use Rattle.disk_core.specs.Volume.{Volume}
use Rattle.disk_core.specs.Pages.{Pages}
use Rattle.disk_core.specs.Media.{HasBanks, HaveSameBanks, LogCrashed, PagesCrashed, EachCrashed, AllCrashed}
use Rattle.disk_core.specs.declared.media.Volumes.{Volumes}
use Rattle.disk_core.specs.declared.media.Which.{Which}
use Rattle.disk_fuse.specs.declared.fused_log.FusedLog.{FusedLog}
use Rattle.disk_fuse.specs.declared.fails.Fails.{Fails}
use Rattle.disk_fuse.specs.declared.fused_pages.FusedPages.{FusedPages}
use Rattle.disk_fuse.specs.FuseMedia.{fused_banks, inner_banks, refusals, xact_bank, subtrans_bank, offsets_bank, members_bank, IsFused, AreWithin, IsUnfused, FuseFell, fuse_begins, fuse_gives, fuse_is_new}

pub on_ok_map : {T E : Type 0} (r : Result T E) {A B : Type 0} → (A → B) → OnOk r A → OnOk r B
on_ok_map (Ok x) f a = f a
on_ok_map (Err e) f a = tt

pub on_err : {T E : Type 0} (r : Result T E) {A : Type 0} → A → OnErr r A
on_err (Ok x) a = tt
on_err (Err e) a = a

module _ {P : Type 0} where
  length-fused_banks : (at : Option ℕ) (fails : Fails) (refused : List ℕ) (i : ℕ) (ps : List P) → length (fused_banks at fails refused i ps) ≡ length ps
  length-fused_banks at fails refused i [] = refl
  length-fused_banks at fails refused i (p ∷ ps) = ap suc (length-fused_banks at fails refused (i + 1) ps)

  inner_of_fused : (at : Option ℕ) (fails : Fails) (refused : List ℕ) (i : ℕ) (ps : List P) → ps ≡ inner_banks (fused_banks at fails refused i ps)
  inner_of_fused at fails refused i [] = refl
  inner_of_fused at fails refused i (p ∷ ps) = ap (λ (l : List P). p ∷ l) (inner_of_fused at fails refused (i + 1) ps)

  length-inner_banks : (fs : List (FusedPages P)) → length (inner_banks fs) ≡ length fs
  length-inner_banks [] = refl
  length-inner_banks (f ∷ fs) = ap suc (length-inner_banks fs)

-- the same volumes have as many banks
pub same_banks : {L P : Type 0} (old next : Volumes L P) → next ≡ old → HaveSameBanks old next
same_banks old next same = record {
  xact = ap (λ v. length v.xact.items) same;
  subtrans = ap (λ v. length v.subtrans.items) same;
  offsets = ap (λ v. length v.offsets.items) same;
  members = ap (λ v. length v.members.items) same;
}

module _ {L P : Type 0} (at : Which) (fails : Fails) (refused : Volumes ℕ ℕ) (v : Volumes L P) (fused : Volumes (FusedLog L) (FusedPages P)) (is : IsFused at fails refused v fused) where
  pub fused_has_banks : (n : ℕ) → HasBanks n v → HasBanks n fused
  fused_has_banks n has = record {
    some = has.some;
    few = has.few;
    xact = ap length is.xact ∙ length-fused_banks (xact_bank at) fails refused.xact.items 0 v.xact.items ∙ has.xact;
    subtrans = ap length is.subtrans ∙ length-fused_banks (subtrans_bank at) fails refused.subtrans.items 0 v.subtrans.items ∙ has.subtrans;
    offsets = ap length is.offsets ∙ length-fused_banks (offsets_bank at) fails refused.offsets.items 0 v.offsets.items ∙ has.offsets;
    members = ap length is.members ∙ length-fused_banks (members_bank at) fails refused.members.items 0 v.members.items ∙ has.members;
  }

  pub fused_same_banks : (old : Volumes (FusedLog L) (FusedPages P)) (u : Volumes L P) (counts : Volumes ℕ ℕ) → IsUnfused old u counts → HaveSameBanks u v → HaveSameBanks old fused
  fused_same_banks old u counts un same = record {
    xact = ap length is.xact ∙ length-fused_banks (xact_bank at) fails refused.xact.items 0 v.xact.items ∙ same.xact ∙ ap length un.within.xact ∙ length-inner_banks old.xact.items;
    subtrans = ap length is.subtrans ∙ length-fused_banks (subtrans_bank at) fails refused.subtrans.items 0 v.subtrans.items ∙ same.subtrans ∙ ap length un.within.subtrans ∙ length-inner_banks old.subtrans.items;
    offsets = ap length is.offsets ∙ length-fused_banks (offsets_bank at) fails refused.offsets.items 0 v.offsets.items ∙ same.offsets ∙ ap length un.within.offsets ∙ length-inner_banks old.offsets.items;
    members = ap length is.members ∙ length-fused_banks (members_bank at) fails refused.members.items 0 v.members.items ∙ same.members ∙ ap length un.within.members ∙ length-inner_banks old.members.items;
  }

  fused_within : AreWithin fused v
  fused_within = record {
    log = ap (λ (f : FusedLog L). f.inner) (sym is.log);
    xact = inner_of_fused (xact_bank at) fails refused.xact.items 0 v.xact.items ∙ ap inner_banks (sym is.xact);
    subtrans = inner_of_fused (subtrans_bank at) fails refused.subtrans.items 0 v.subtrans.items ∙ ap inner_banks (sym is.subtrans);
    offsets = inner_of_fused (offsets_bank at) fails refused.offsets.items 0 v.offsets.items ∙ ap inner_banks (sym is.offsets);
    members = inner_of_fused (members_bank at) fails refused.members.items 0 v.members.items ∙ ap inner_banks (sym is.members);
  }

  pub fell_within : (fell : Volumes L P → Volumes L P → Type 0) (old : Volumes (FusedLog L) (FusedPages P)) (u : Volumes L P) (counts : Volumes ℕ ℕ) → IsUnfused old u counts → fell u v → FuseFell fell old fused
  fell_within fell old u counts un falls = record { before = u; after = v; within_old = un.within; within_new = fused_within; falls = falls }

module _ {P : Type 0} (pages : P → Pages) (images : P → Pages → Type 0) (faults : P → ℕ) where
  abbrev bank_fell : FusedPages P → FusedPages P → Type 0
  bank_fell = PagesCrashed (λ f. pages f.inner) (λ f. images f.inner) (λ f. faults f.inner + f.refused)

  each_fused : (at : Option ℕ) (fails : Fails) (counts : List ℕ) (i : ℕ) (xs : List (FusedPages P)) (ys : List P) → drop i counts ≡ refusals xs
      → EachCrashed (PagesCrashed pages images faults) (inner_banks xs) ys → EachCrashed bank_fell xs (fused_banks at fails counts i ys)
  each_fused at fails counts i [] [] same each = tt
  each_fused at fails counts i [] (y ∷ ys) same each = absurd each
  each_fused at fails counts i (x ∷ xs) [] same each = absurd each
  each_fused at fails counts i (x ∷ xs) (y ∷ ys) same each =
      let long : length (drop i counts) ≡ suc (length (refusals xs)) = ap length same in
      let lt : i < length counts = omega (arith, length-drop i counts) in
      let both : slice_index counts i ∷ drop (i + 1) counts ≡ x.refused ∷ refusals xs = sym (drop_more counts i 0 lt) ∙ same in
      let here : slice_index counts i ≡ x.refused = cc in
      let rest : drop (i + 1) counts ≡ refusals xs = cc in
      (record { image = each.0.image; only = each.0.only; count = omega (arith, here, each.0.count) }, each_fused at fails counts (i + 1) xs ys rest each.1)

  pub banks_fell : (at : Option ℕ) (fails : Fails) (counts : List ℕ) (xs zs : List (FusedPages P)) (us ys : List P) → us ≡ inner_banks xs → counts ≡ refusals xs → zs ≡ fused_banks at fails counts 0 ys
      → EachCrashed (PagesCrashed pages images faults) us ys → EachCrashed bank_fell xs zs
  banks_fell at fails counts xs zs us ys inner count fused each =
      subst (λ (l : List (FusedPages P)). EachCrashed bank_fell xs l) (sym fused) (each_fused at fails counts 0 xs ys count (subst (λ (l : List P). EachCrashed (PagesCrashed pages images faults) l ys) inner each))

module _ {L : Type 0} (reads : L → Volume) (images : L → Volume → Type 0) (faults : L → ℕ) where
  abbrev log_fell : FusedLog L → FusedLog L → Type 0
  log_fell = LogCrashed (λ f. reads f.inner) (λ f. images f.inner) (λ f. faults f.inner + f.refused)

  log_fused : (x : FusedLog L) (y : L) (left : Fails) (count : ℕ) → count ≡ x.refused → LogCrashed reads images faults x.inner y → log_fell x (record { inner = y; fails = left; refused = count })
  log_fused x y left count same fell = record { image = fell.image; only = fell.only; count = omega (arith, same, fell.count) }

  pub the_log_fell : (x z : FusedLog L) (u y : L) (left : Fails) (count : ℕ) → u ≡ x.inner → count ≡ x.refused → z ≡ record { inner = y; fails = left; refused = count } → LogCrashed reads images faults u y → log_fell x z
  the_log_fell x z u y left count inner same fused fell =
      subst (λ (f : FusedLog L). log_fell x f) (sym fused) (log_fused x y left count same (subst (λ (l : L). LogCrashed reads images faults l y) inner fell))

module _ {L P : Type 0} (reads : L → Volume) (log_images : L → Volume → Type 0) (log_faults : L → ℕ) (pages : P → Pages) (images : P → Pages → Type 0) (faults : P → ℕ) where
  pub all_fell : (at : Which) (fails : Fails) (counts : Volumes ℕ ℕ) (old next : Volumes (FusedLog L) (FusedPages P)) (u w : Volumes L P) → IsUnfused old u counts → IsFused at fails counts w next
      → AllCrashed (LogCrashed reads log_images log_faults) (PagesCrashed pages images faults) u w → AllCrashed (log_fell reads log_images log_faults) (bank_fell pages images faults) old next
  all_fell at fails counts old next u w un is fell = record {
    log = the_log_fell reads log_images log_faults old.log next.log u.log w.log _ counts.log un.within.log un.log_refused is.log fell.log;
    xact = banks_fell pages images faults (xact_bank at) fails counts.xact.items old.xact.items next.xact.items u.xact.items w.xact.items un.within.xact un.xact_refused is.xact fell.xact;
    subtrans = banks_fell pages images faults (subtrans_bank at) fails counts.subtrans.items old.subtrans.items next.subtrans.items u.subtrans.items w.subtrans.items un.within.subtrans un.subtrans_refused is.subtrans fell.subtrans;
    offsets = banks_fell pages images faults (offsets_bank at) fails counts.offsets.items old.offsets.items next.offsets.items u.offsets.items w.offsets.items un.within.offsets un.offsets_refused is.offsets fell.offsets;
    members = banks_fell pages images faults (members_bank at) fails counts.members.items old.members.items next.members.items u.members.items w.members.items un.within.members un.members_refused is.members fell.members;
  }

-- a mount where nothing was given back
module _ {L P : Type 0} (G : Volumes L P → Type 0) (held : Option (Volumes (FusedLog L) (FusedPages P))) (at : Which) (fails : Fails) (refused : Volumes ℕ ℕ) (was_new : Bool) (none : held ≡ None) where
  was_old : fuse_is_new was_new held ≡ false → was_new ≡ false
  was_old old = subst (λ (h : Option (Volumes (FusedLog L) (FusedPages P))). fuse_is_new was_new h ≡ false) none old

  pub gives_again : (v : Volumes L P) (fused : Volumes (FusedLog L) (FusedPages P)) → (was_new ≡ false → G v) → IsFused at fails refused v fused
      → fuse_is_new was_new held ≡ false → fuse_gives G held at fails refused fused
  gives_again v fused inner is old = subst (λ (h : Option (Volumes (FusedLog L) (FusedPages P))). fuse_gives G h at fails refused fused) (sym none) (v, inner (was_old old), is)

  pub gives_first : (n : ℕ) (v : Volumes L P) (fused : Volumes (FusedLog L) (FusedPages P)) → (IsTrue was_new → HasBanks n v) → IsFused at fails refused v fused
      → IsTrue (fuse_is_new was_new held) → HasBanks n fused
  gives_first n v fused inner is new =
      fused_has_banks at fails refused v fused is n (inner (subst (λ (h : Option (Volumes (FusedLog L) (FusedPages P))). IsTrue (fuse_is_new was_new h)) none new))

  pub begins_first : (B : Volumes L P → Type 0) (v : Volumes L P) (fused : Volumes (FusedLog L) (FusedPages P)) → (IsTrue was_new → B v) → IsFused at fails refused v fused
      → IsTrue (fuse_is_new was_new held) → fuse_begins B at fails refused fused
  begins_first B v fused inner is new = (v, inner (subst (λ (h : Option (Volumes (FusedLog L) (FusedPages P))). IsTrue (fuse_is_new was_new h)) none new), is)

  pub still_gives : (G_2 : Volumes L P → Type 0) (held_2 : Option (Volumes (FusedLog L) (FusedPages P))) (now_new : Bool) → held_2 ≡ None → (was_new ≡ false → (now_new ≡ false) × NoMore G G_2)
      → fuse_is_new was_new held ≡ false → (fuse_is_new now_new held_2 ≡ false) × NoMore (fuse_gives G held at fails refused) (fuse_gives G_2 held_2 at fails refused)
  still_gives G_2 held_2 now_new none_2 inner old =
      let i = inner (was_old old) in (
        subst (λ (h : Option (Volumes (FusedLog L) (FusedPages P))). fuse_is_new now_new h ≡ false) (sym none_2) i.0,
        λ fused given. subst (λ (h : Option (Volumes (FusedLog L) (FusedPages P))). fuse_gives G h at fails refused fused) (sym none)
            (gave fused i.1 (subst (λ (h : Option (Volumes (FusedLog L) (FusedPages P))). fuse_gives G_2 h at fails refused fused) none_2 given)),
      )
    where
      gave : (fused : Volumes (FusedLog L) (FusedPages P)) → NoMore G G_2 → (w : Volumes L P) × G_2 w × IsFused at fails refused w fused → (w : Volumes L P) × G w × IsFused at fails refused w fused
      gave fused fewer given = (given.0, fewer given.0 given.1, given.2)

  -- the volumes within were given back
  pub rested : (G_2 : Volumes L P → Type 0) (v back : Volumes L P) → back ≡ v → (was_new ≡ false → G v) → Only back G_2 → was_new ≡ false → NoMore G G_2
  rested G_2 v back same inner only old w given = subst G (sym (only w given ∙ same)) (inner old)
