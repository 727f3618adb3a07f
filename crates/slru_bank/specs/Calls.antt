-- What a caller sees of a bank, and what its calls keep and answer, whatever they do to the pages.
use Rattle.std.proofs.Common.{◌≡◌, ◌≢◌, ℕ, ◌≤◌, Bool, List, Result, Ok, Err, OnOk, OnErr, IsErr, IsTrue, refl, subst, sym, ◌∙◌, arith}
use Rattle.disk_core.specs.Faults.{HasRisen}
use Rattle.disk_core.specs.Pages.{Pages, page_bytes}
use Rattle.disk_core.specs.declared.page_disk.PageDisk.{Ghosts as DiskGhosts}
use Rattle.tx_events.specs.PageOrder.{is_cut}
use Rattle.slru_bank.specs.declared.bank.SlruBank.{SlruBank}
use Rattle.store_pages.specs.declared.page_rule.PageRule.{Ghosts as RuleGhosts}
use Rattle.slru_bank.specs.declared.refusal.BankRefusal.{BankRefusal}
use Rattle.slru_bank.specs.declared.refusal.BankRefusal.TheVariants.{Cut, DiskFault}
use Rattle.slru_bank.specs.Bank.{map_of, FirstHolds}
use Rattle.slru_bank.specs.Crash.{SameMap, CrashLeaves, IsMixture, IsMixtureOrGone}
use Rattle.slru_bank.specs.Removal.{AllAbsent, Drops, MayDrop}

module _ {P O : Type 0} {g : DiskGhosts P} {r : RuleGhosts O} where
  -- the bytes of each page, whatever was evicted
  abbrev pub pages_of : SlruBank P O g r → ℕ → List ℕ
  pages_of bank = map_of (g.pages bank.disk) bank.room.value.buffers.items

  abbrev pub SamePages : SlruBank P O g r → SlruBank P O g r → Type 0
  SamePages old new = SameMap (pages_of old) (pages_of new)

  -- the last page that was made
  abbrev pub last_page : SlruBank P O g r → ℕ
  last_page bank = bank.room.value.last

  abbrev pub cutoff_of : SlruBank P O g r → ℕ
  cutoff_of bank = bank.room.value.cutoff

  abbrev pub volume_of : SlruBank P O g r → P
  volume_of bank = bank.disk

  abbrev pub faults_of : SlruBank P O g r → ℕ
  faults_of bank = g.faults bank.disk

  -- the page's segment lies wholly before the cutoff
  abbrev pub IsCut : ℕ → SlruBank P O g r → Type 0
  IsCut page bank = IsTrue (is_cut r.shape r.per_page bank.room.value.cutoff page)

  -- the page was used last: a call on it asks the volume for nothing
  abbrev pub IsAtHand : ℕ → SlruBank P O g r → Type 0
  IsAtHand page bank = FirstHolds page bank.room.value.buffers.items

  -- each image that a crash may leave has the bytes of the pages
  abbrev pub IsDurable : SlruBank P O g r → Type 0
  IsDurable bank = (c : Pages) → g.images bank.disk c → (q : ℕ) → page_bytes (c q) ≡ pages_of bank q

  -- what a crash leaves of each byte, in a call or after it: what the volume had, or what the page had before the call
  abbrev pub CrashKeeps : SlruBank P O g r → SlruBank P O g r → Type 0
  CrashKeeps old new =
      IsTrue g.tells → CrashLeaves (IsMixture (pages_of old) (pages_of old)) g.images g.moment g.left_at old.disk new.disk

  -- the same of a removal: or 0 on a page to remove
  abbrev pub CrashMayLack : (ℕ → Bool) → SlruBank P O g r → SlruBank P O g r → Type 0
  CrashMayLack gone old new =
      IsTrue g.tells → CrashLeaves (IsMixtureOrGone gone (pages_of old) (pages_of old)) g.images g.moment g.left_at old.disk new.disk

  -- the cutoff stays, each refusal has its cause, and a page that is cut asks the volume for nothing
  pub record CallsPage {X : Type 0} (page : ℕ) (old new : SlruBank P O g r) (result : Result X BankRefusal) : Type 0 where
    pub cutoff : cutoff_of new ≡ cutoff_of old
    pub cut : IsCut page old → result ≡ Err (Cut (cutoff_of old))
    pub only_cut : (c : ℕ) → result ≡ Err (Cut c) → (c ≡ cutoff_of old) × IsCut page old
    pub cut_asks_nothing : IsCut page old → volume_of new ≡ volume_of old
    pub fault : result ≡ Err DiskFault → HasRisen (faults_of old) (faults_of new)
    pub count : faults_of old ≤ faults_of new
    pub crash : CrashKeeps old new

  -- a call on one page, which is at hand from then on; where it was before, the volume isn't asked, so it can't fail
  pub record CallsBank {X : Type 0} (page : ℕ) (old new : SlruBank P O g r) (result : Result X BankRefusal) : Type 0 where
    pub last : last_page new ≡ last_page old
    pub calls : CallsPage page old new result
    pub at_hand : OnOk result (IsAtHand page new)
    pub no_fault : IsAtHand page old → result ≢ Err DiskFault
    pub not_asked : IsAtHand page old → volume_of new ≡ volume_of old

  -- A call on many pages. Only a volume that fails refuses it.
  pub record SweepsBank {X : Type 0} (old new : SlruBank P O g r) (result : Result X BankRefusal) : Type 0 where
    pub last : last_page new ≡ last_page old
    pub fault : IsErr result → (result ≡ Err DiskFault) × HasRisen (faults_of old) (faults_of new)
    pub count : faults_of old ≤ faults_of new

  -- a call that removes all pages of a kind
  pub record RemovesPages {X : Type 0} (gone : ℕ → Bool) (old new : SlruBank P O g r) (result : Result X BankRefusal) : Type 0 where
    pub sweeps : SweepsBank old new result
    pub drops : IsTrue g.tells → OnOk result (Drops gone (pages_of old) (pages_of new))
    pub absent : IsTrue g.tells → OnOk result (AllAbsent gone (g.pages (volume_of new)))
    pub others : IsTrue g.tells → MayDrop gone (pages_of old) (pages_of new)
    pub crash : CrashMayLack gone old new

  -- A call that removes all pages of a kind and changes another one after that. After an error some are removed, and no
  -- other one is changed.
  pub record TrimsBank {X : Type 0} (gone : ℕ → Bool) (old new : SlruBank P O g r) (result : Result X BankRefusal) : Type 0 where
    pub sweeps : SweepsBank old new result
    pub cutoff : cutoff_of new ≡ cutoff_of old
    pub err : IsTrue g.tells → OnErr result (MayDrop gone (pages_of old) (pages_of new))
    pub crash : CrashMayLack gone old new

-- a call on a page that is at hand and isn't cut isn't refused
pub at_hand_is_ok : {P O X : Type 0} {g : DiskGhosts P} {r : RuleGhosts O} (page : ℕ) (old new : SlruBank P O g r) (result : Result X BankRefusal) → IsAtHand page old → (IsCut page old → ⊥) → CallsBank page old new result
    → (refusal : BankRefusal) → result ≡ Err refusal → ⊥
at_hand_is_ok page old new result at_hand kept calls (Cut cutoff) refused = kept (calls.calls.only_cut cutoff refused).1
at_hand_is_ok page old new result at_hand kept calls DiskFault refused = calls.no_fault at_hand refused

-- two calls on one page, the first of which answered Ok
module _ {P O : Type 0} {g : DiskGhosts P} {r : RuleGhosts O} {X Y : Type 0} (page : ℕ) (b0 b1 b2 : SlruBank P O g r) (x : X) (first : Result X BankRefusal) (second : Result Y BankRefusal) where
  now_at_hand : first ≡ Ok x → CallsBank page b0 b1 first → IsAtHand page b1
  now_at_hand is calls = subst (λ (s : Result X BankRefusal). OnOk s (IsAtHand page b1)) is calls.at_hand

  not_cut : first ≡ Ok x → CallsBank page b0 b1 first → IsCut page b1 → ⊥
  not_cut is calls cut =
      let refused = calls.calls.cut (subst (λ (cutoff : ℕ). IsTrue (is_cut r.shape r.per_page cutoff page)) calls.calls.cutoff cut) in
      absurd cc

  -- the second isn't refused
  pub second_is_ok : first ≡ Ok x → CallsBank page b0 b1 first → CallsBank page b1 b2 second → (refusal : BankRefusal) → second ≡ Err refusal → ⊥
  second_is_ok is calls again = at_hand_is_ok page b1 b2 second (now_at_hand is calls) (not_cut is calls) again

  -- both are as one call
  pub calls_again : first ≡ Ok x → CallsBank page b0 b1 first → CallsBank page b1 b2 second → CallsBank page b0 b2 second
  calls_again is calls again = record {
    last = again.last ∙ calls.last;
    calls = record {
      cutoff = again.calls.cutoff ∙ calls.calls.cutoff;
      cut = λ cut. let was = calls.calls.cut cut in absurd cc;
      cut_asks_nothing = λ cut. let was = calls.calls.cut cut in absurd cc;
      only_cut = λ cutoff refused. absurd (second_is_ok is calls again (Cut cutoff) refused);
      fault = λ refused. absurd (second_is_ok is calls again DiskFault refused);
      count = omega (arith, calls.calls.count, again.calls.count);
      crash = λ told. subst (λ (d : P). CrashLeaves (IsMixture (pages_of b0) (pages_of b0)) g.images g.moment g.left_at b0.disk d) (sym (again.not_asked (now_at_hand is calls))) (calls.calls.crash told);
    };
    at_hand = again.at_hand;
    no_fault = λ held. again.no_fault (now_at_hand is calls);
    not_asked = λ held. again.not_asked (now_at_hand is calls) ∙ calls.not_asked held;
  }

-- what is said of a refusal holds where there is none
pub unrefused : {X : Type 0} (result : Result X BankRefusal) (A : Type 0) → ((refusal : BankRefusal) → result ≡ Err refusal → ⊥) → OnErr result A
unrefused (Ok x) A never = tt
unrefused (Err refusal) A never = absurd (never refusal refl)
