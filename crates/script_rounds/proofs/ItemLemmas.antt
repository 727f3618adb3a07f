-- The items of a script as they are looked at, one by one.
use Rattle.std.proofs.Common.{◌≡◌, ℕ, ◌+◌, ◌<◌, List, [], ◌∷◌, ◌++◌, Option, Some, None, refl, sym, ap, ◌∙◌, ⊎_elim, inr, true, false, append_assoc, drop, get_or, length, take}
use Rattle.std.proofs.lemmas.Bool.{cases_lt, false≢true}
use Rattle.std.proofs.lemmas.List.{get_or_past, take_more, take-append-drop}
use Rattle.std.proofs.lemmas.Option.{slice_get-get_or}
use Rattle.std.specs.List.{All, slice_get}
use Rattle.std.specs.Option.{is_some}
use Rattle.tx_model.specs.declared.report.How.{How}
use Rattle.session_lang.specs.declared.script.Item.{Item}
use Rattle.session_lang.specs.declared.script.Item.TheVariants as items
use Rattle.session_lang.specs.Rounds.{crash_in, session_of}
use Rattle.run_law.specs.Lives.{IsFirstPart}
use Rattle.run_law.specs.Turns.{IsFirstRound, is_command}

-- a command is what has a session
pub has_session : (x : Item) → is_command x ≡ is_some (session_of x)
has_session (items.Run s c) = refl
has_session items.Round = refl
has_session items.Checkpoint = refl
has_session (items.Crash how) = refl
has_session (items.Dump what at size) = refl

some≢none : {X : Type 0} (x : X) → Some x ≡ None → ⊥
some≢none x e = cc

-- no item stands there
pub none_there : (script : List Item) (i : ℕ) → slice_get script i ≡ None → get_or script i items.Round ≡ items.Round
none_there script i e = ⊎_elim
    (λ (l : i < length script). absurd (some≢none (get_or script i items.Round) (sym (slice_get-get_or script i items.Round l) ∙ e)))
    (λ l. get_or_past script i items.Round l)
    (cases_lt i (length script))

-- where no command stands the round ends
pub round_at : (script : List Item) (i : ℕ) (x : Item) → i < length script → x ≡ get_or script i x → is_command x ≡ false → All (λ item. is_command item ≡ true) (take i script) → IsFirstRound script (take i script) (drop (i + 1) script)
round_at script i x l e n a =
    let parts = sym (take-append-drop (i + 1) script) ∙ ap (λ t. t ++ drop (i + 1) script) (take_more script i x l ∙ ap (λ y. take i script ++ y ∷ []) (sym e)) ∙ append_assoc (take i script) (x ∷ []) (drop (i + 1) script) in
    record { commands = a; split = inr (x, n, parts) }

-- no crash stands there
pub no_crash_there : (x : Item) (crash : Option How) → crash ≡ crash_in x → is_some crash ≡ false → crash_in x ≡ None
no_crash_there x None e n = sym e
no_crash_there x (Some how) e n = absurd (false≢true (sym n))

crash_of : (x : Item) (how : How) → crash_in x ≡ Some how → x ≡ items.Crash how
crash_of (items.Crash other) how e = cc
crash_of (items.Run s c) how e = absurd (some≢none how (sym e))
crash_of items.Round how e = absurd (some≢none how (sym e))
crash_of items.Checkpoint how e = absurd (some≢none how (sym e))
crash_of (items.Dump what at size) how e = absurd (some≢none how (sym e))

-- where a crash stands the part ends
pub part_at : (script : List Item) (i : ℕ) (x : Item) (crash : Option How) → i < length script → x ≡ get_or script i x → crash ≡ crash_in x → is_some crash ≡ true → All (λ item. crash_in item ≡ None) (take i script) → IsFirstPart script (take i script) crash (drop (i + 1) script)
part_at script i x None l e is n a = absurd (false≢true n)
part_at script i x (Some how) l e is n a =
    let parts = sym (take-append-drop (i + 1) script) ∙ ap (λ t. t ++ drop (i + 1) script) (take_more script i x l ∙ ap (λ y. take i script ++ y ∷ []) (sym e)) ∙ append_assoc (take i script) (x ∷ []) (drop (i + 1) script) in
    record { none = a; split = inr (how, refl, parts ∙ ap (λ (y : Item). take i script ++ y ∷ drop (i + 1) script) (crash_of x how (sym is))) }
