-- A bank of which a call changed nothing stands for the same list.
use Rattle.std.proofs.Common.{◌≡◌, ℕ, suc, ◌≤◌, List, IsTrue, ap, arith, ◌∙◌, inl, refl, subst, sym}
use Rattle.disk_core.specs.declared.page_disk.PageDisk as disks
use Rattle.store_pages.specs.declared.page_rule.PageRule as rules
use Rattle.slru_bank.specs.declared.bank.SlruBank.{SlruBank}
use Rattle.slru_bank.specs.Calls.{CrashKeeps, SamePages, cutoff_of, faults_of, last_page, pages_of}
use Rattle.store_pages.specs.Layouts.{number_in, state_in, word_page_of, word_place_of, xact_page_of, xact_place_of}
use Rattle.tx_core.specs.declared.entry.Entry.{Entry}
use Rattle.tx_core.specs.declared.entry.Start.{Start}
use Rattle.engine_parts.specs.BankCourse.{IsParentOn, LookedAt, ParentsCame, parent_rack}
use Rattle.engine_parts.specs.Course.{HasCourse, Looked}
use Rattle.engine_parts.specs.Parts.{IsSubtransOf, IsXactOf}
use Rattle.engine_parts.specs.Stand.{SubtransStands, XactStands}

module _ {P O : Type 0} {g : disks.Ghosts P} {r : rules.Ghosts O} where
  -- the pages, the last made one and the cutoff stay, and no fault is forgotten
  pub record IsSame (old new : SlruBank P O g r) : Type 0 where
    pub last : last_page new ≡ last_page old
    pub cutoff : cutoff_of new ≡ cutoff_of old
    pub count : faults_of old ≤ faults_of new
    pub pages : IsTrue g.tells → SamePages old new

  pub xact_same : (start : Start) (bank : ℕ) (old new : SlruBank P O g r) (es : List Entry) → IsSame old new → CrashKeeps old new → IsXactOf start bank old es → IsXactOf start bank new es
  xact_same start bank old new es same crash s =
      subst (λ (z : ℕ × ℕ). XactStands start bank g.tells (faults_of new) z.0 z.1 (pages_of new) (HasCourse start bank new) es) (λ j. (sym same.last j, sym same.cutoff j)) (record {
        inside = s.inside;
        count = (let c = s.count in let f = same.count in omega arith);
        last_is = s.last_is;
        cutoff_is = s.cutoff_is;
        near = s.near;
        shown = λ told near.
            let old_shown = s.shown told near in
            (old_shown.0, old_shown.1, record { each = λ x used here uncut. ap (λ (t : List ℕ). state_in t (xact_place_of x)) (same.pages told (xact_page_of x)) ∙ old_shown.2.each x used here uncut });
        course = λ told.
            let k = s.course told in
            let look : Looked old new es es = record { entries = refl; last = same.last; cutoff = same.cutoff; pages = same.pages told; crash = crash } in
            (suc k.0, (old, es, k.1, inl look));
      })

  pub subtrans_same : (start : Start) (bank : ℕ) (old new : SlruBank P O g r) (es : List Entry) → IsSame old new → CrashKeeps old new → IsSubtransOf start bank old es → IsSubtransOf start bank new es
  subtrans_same start bank old new es same crash s =
      subst (λ (z : ℕ × ℕ). SubtransStands start bank g.tells (faults_of new) z.0 z.1 (pages_of new) (ParentsCame start bank new) es) (λ j. (sym same.last j, sym same.cutoff j)) (record {
        inside = s.inside;
        count = (let c = s.count in let f = same.count in omega arith);
        last_is = s.last_is;
        cutoff_is = s.cutoff_is;
        near = s.near;
        shown = λ told near. record { each = λ x used here uncut. ap (λ (t : List ℕ). number_in t (word_place_of x)) (same.pages told (word_page_of x)) ∙ (s.shown told near).each x used here uncut };
        course = λ told.
            let k = s.course told in
            let look : LookedAt (parent_rack start) (IsParentOn start bank) old new es es = record { entries = refl; last = same.last; cutoff = same.cutoff; pages = same.pages told; crash = crash } in
            (suc k.0, (old, es, k.1, inl look));
      })
