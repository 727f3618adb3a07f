-- The tool's words are refused: nothing is read and nothing run.
use Rattle.std.proofs.Common.{◌≡◌, ◌≢◌, ◌≤◌, ◌⊎◌, ℕ, List, [], ◌∷◌, ◌++◌, IsTrue, codes, refl, sym, subst, take, ◌∙◌, arith, inl, inr, ⊎_elim}
use Rattle.std.proofs.KnownBytes.{Consumes-nil}
use Rattle.std.specs.Io.KnownBytes.{Appends}
use Rattle.disk_core.specs.declared.log_disk.LogDisk as logs
use Rattle.disk_core.specs.declared.page_disk.PageDisk as disks
use Rattle.disk_core.specs.declared.media.Media as medias
use Rattle.tx_io.specs.declared.traits.Source as sources
use Rattle.tx_io.specs.declared.traits.Sink as sinks
use Rattle.tx_io.specs.Causes.{Rose}
use Rattle.recoverable.specs.Fit.{KeptLog}
use Rattle.session_run.specs.Guarantee.{RunsTool}
use Rattle.session_run.specs.Tool.{IsAccepted}
use Rattle.session_run.proofs.ToolEnds.{words_unmounted}

module _ {S K M L P : Type 0} (s : sources.Ghosts S) (k : sinks.Ghosts K) (m : medias.Ghosts M L P) (l : logs.Ghosts L) (p : disks.Ghosts P)
    (kept : KeptLog) (typed : List (List ℕ)) (source : S) (sink sink' : K) (media : M) (status : ℕ) where
  abbrev Line : List ℕ
  Line = codes "words" ++ 10 ∷ []

  abbrev Wrote : Type 0
  Wrote = Appends (k.held sink) (k.held sink') Line

  abbrev Failed : Type 0
  Failed = Rose (k.faults sink) (k.faults sink')

  abbrev Ended : Type 0
  Ended = ((status ≡ 2) × Wrote) ⊎ ((status ≡ 4) × Failed)

  -- no other status comes
  other : (A : Type 0) (n : ℕ) → n ≢ 2 → n ≢ 4 → Ended → status ≡ n → A
  other A n two four ends is = absurd (⊎_elim
      (λ (a : (status ≡ 2) × Wrote). two (sym is ∙ a.0))
      (λ (b : (status ≡ 4) × Failed). four (sym is ∙ b.0)) ends)

  wrote : Ended → status ≡ 2 → Wrote
  wrote ends is = ⊎_elim
      (λ (a : (status ≡ 2) × Wrote). a.1)
      (λ (b : (status ≡ 4) × Failed). absurd (let e = sym is ∙ b.0 in omega (arith, e))) ends

  failed : Ended → status ≡ 4 → Failed
  failed ends is = ⊎_elim
      (λ (a : (status ≡ 2) × Wrote). absurd (let e = sym is ∙ a.0 in omega (arith, e)))
      (λ (b : (status ≡ 4) × Failed). b.1) ends

  known : Ended → (status ≤ 9) × (status ≢ 8)
  known ends = ⊎_elim
      (λ (a : (status ≡ 2) × Wrote). subst (λ n. (n ≤ 9) × (n ≢ 8)) (sym a.0) (omega arith, λ q. omega (arith, q)))
      (λ (b : (status ≡ 4) × Failed). subst (λ n. (n ≤ 9) × (n ≢ 8)) (sym b.0) (omega arith, λ q. omega (arith, q))) ends

  pub refuses : (IsAccepted typed → ⊥) → Ended → (n : ℕ) × Appends (k.held sink) (k.held sink') (take n Line) → IsTrue (m.is_idle media)
      → RunsTool s k m l p kept typed source source sink sink' media media status
  refuses unknown ends front idle = record {
    done = λ is. other _ 0 (λ q. omega (arith, q)) (λ q. omega (arith, q)) ends is;
    counted = λ is. other _ 0 (λ q. omega (arith, q)) (λ q. omega (arith, q)) ends is;
    script = λ is. other _ 1 (λ q. omega (arith, q)) (λ q. omega (arith, q)) ends is;
    words = λ is. unknown;
    words_only = λ refused. ⊎_elim
        (λ (a : (status ≡ 2) × Wrote). inl a.0)
        (λ (b : (status ≡ 4) × Failed). inr b.0) ends;
    read = λ is. other _ 3 (λ q. omega (arith, q)) (λ q. omega (arith, q)) ends is;
    write = failed ends;
    front = λ is. record { text = Line; whole = inl (unknown, refl); count = front.0; front = front.1 };
    device = λ is. other _ 5 (λ q. omega (arith, q)) (λ q. omega (arith, q)) ends is;
    memory = λ is. other _ 6 (λ q. omega (arith, q)) (λ q. omega (arith, q)) ends is;
    damaged = λ is. other _ 7 (λ q. omega (arith, q)) (λ q. omega (arith, q)) ends is;
    full = λ is. other _ 9 (λ q. omega (arith, q)) (λ q. omega (arith, q)) ends is;
    statuses = known ends;
    amount = record { bytes = []; read = Consumes-nil (s.left source); few = omega arith };
    untouched = λ other. refl;
    unused = λ refused. refl;
    unmounted = λ is. refl;
    rested = idle;
    used = λ is. absurd (words_unmounted Wrote Failed status ends is);
    no_words = wrote ends;
    read_fault = λ is. other _ 3 (λ q. omega (arith, q)) (λ q. omega (arith, q)) ends is;
  }
