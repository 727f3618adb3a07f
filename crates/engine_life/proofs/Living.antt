-- What a life leaves, and why none was opened.
use Rattle.std.proofs.Common.{ℕ, ◌≡◌, ◌++◌, ◌∙◌, Err, IfErr, IfOk, List, Ok, Result, ap, append_assoc, inr, sym}
use Rattle.disk_core.specs.declared.log_disk.LogDisk as logs
use Rattle.disk_core.specs.declared.page_disk.PageDisk as disks
use Rattle.disk_core.specs.declared.media.Volumes.{Volumes}
use Rattle.disk_core.specs.Images.{Only}
use Rattle.engine_host.specs.declared.cluster.Cluster.{Cluster}
use Rattle.engine_life.specs.declared.refusal.NoLife.{NoLife}
use Rattle.engine_life.specs.declared.refusal.NoLife.TheVariants as no_lives
use Rattle.engine_life.specs.FirstLives.{with_banks}
use Rattle.engine_life.specs.Refusals.{IsNoLife, IsUnopened}

-- one text behind the other
pub behind_text : (histories log crash a b : List ℕ) → a ≡ histories → b ≡ log ++ crash → a ++ b ≡ (histories ++ log) ++ crash
behind_text histories log crash a b one two =
    ap (λ (t : List ℕ). t ++ b) one ∙ (ap (λ (t : List ℕ). histories ++ t) two ∙ sym (append_assoc histories log crash))

pub of_err : {X E : Type 0} (r : Result X E) (P Q : E → Type 0) → ((e : E) → P e → Q e) → IfErr r P → IfErr r Q
of_err (Ok x) P Q f k = tt
of_err (Err e) P Q f k = f e k

pub of_oks : {X E : Type 0} (r : Result X E) (P Q R : X → Type 0) → ((x : X) → P x → Q x → R x) → IfOk r P → IfOk r Q → IfOk r R
of_oks (Ok x) P Q R f k m = f x k m
of_oks (Err e) P Q R f k m = tt

module _ {L P : Type 0} (l : logs.Ghosts L) (p : disks.Ghosts P) where
  -- why no life was opened doesn't go by the number of banks
  pub unopened : (c : Cluster) (banks : ℕ) (first : ℕ → Volumes L P → Type 0) (before now : ℕ) (gives : Volumes L P → Type 0) (old new : Volumes L P) (r : NoLife)
      → first c.banks old → Only new gives → IsNoLife l p (with_banks c banks) old new r → IsUnopened l p c first before now gives r
  unopened c banks first before now gives old new (no_lives.Damaged at) given only k = (old, new, given, only, k)
  unopened c banks first before now gives old new no_lives.Device given only k = inr (old, new, given, only, k)
  unopened c banks first before now gives old new no_lives.Full given only k = (old, new, given, only, k)
  unopened c banks first before now gives old new no_lives.Memory given only k = tt
