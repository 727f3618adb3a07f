-- An entry of the host at a lock that it entered alone: what giving the part back needs of it, and what that leaves.
use Rattle.std.proofs.Common.{◌≡◌, ℕ, List, [], ◌∷◌, ◌++◌, ap, refl, sym, subst, ◌∙◌}
use Rattle.disk_core.specs.declared.log_disk.LogDisk as logs
use Rattle.disk_core.specs.declared.page_disk.PageDisk as disks
use Rattle.hall.specs.declared.hall.Hall.{Hall}
use Rattle.hall.specs.declared.pass.Token.{Token}
use Rattle.hall.specs.Calls.{IsOf, start_of, view}
use Rattle.notes.specs.Lists.{add, at}
use Rattle.tx_core.specs.declared.entry.Entry.{Entry}
use Rattle.tx_core.specs.declared.entry.Start.{Start}
use Rattle.tx_core.specs.Entries.{session_of}
use Rattle.tx_core.specs.Laws.{HostKindKeeps}
use Rattle.tx_core.specs.ProgramOrder.{IsHostsTurn}
use Rattle.engine_parts.specs.declared.part.Part.{Part}
use Rattle.engine_parts.specs.Alone.{IsAlone, IsIn}
use Rattle.engine_parts.specs.Holds.{Leaves}
use Rattle.engine_parts.specs.Law.{MayKeep}
use Rattle.engine_parts.specs.Parts.{PartStands}
use Rattle.host_sections.proofs.Aloneness.{may_add, went_out}

module _ {H L P : Type 0} {l : logs.Ghosts L} {p : disks.Ghosts P} (hall : Hall H (Part L P l p) Entry Start) (lock : ℕ) (old within : Token (Part L P l p) Entry Start) (alone : IsAlone hall old) (i : IsIn hall lock old within) (note e : Entry) (is : note ≡ e) where
  -- it is the host's own
  pub noted_own : IsHostsTurn (start_of hall) e.by → session_of note ≡ (view within).name
  noted_own turn = ap session_of is ∙ (turn.known ∙ (sym alone.name ∙ sym i.name))

  -- it may be added
  pub noted_may : IsHostsTurn (start_of hall) e.by → HostKindKeeps (start_of hall) (view old).seen lock e.by e.kind → MayKeep (start_of hall) (view within).seen within.cell note
  noted_may turn keeps =
      subst (λ (z : List (List Entry) × ℕ × Entry). MayKeep (start_of hall) z.0 z.1 z.2) (λ j. (sym i.seen j, sym i.cell j, sym is j)) (may_add (start_of hall) (view old).seen lock e.by e.kind e refl keeps turn)

  -- the part stands with it
  pub noted_stands : (part : Part L P l p) → PartStands (start_of hall) lock part (at (view old).seen lock ++ e ∷ []) → PartStands (start_of hall) within.cell part (at (view within).seen within.cell ++ note ∷ [])
  noted_stands part = subst (λ (z : List (List Entry) × ℕ × Entry). PartStands (start_of hall) z.1 part (at z.0 z.1 ++ z.2 ∷ [])) (λ j. (sym i.seen j, sym i.cell j, sym is j))

  module _ (new : Token (Part L P l p) Entry Start) (own : IsOf hall new) (left : Leaves (start_of hall) within.cell note (view within) (view new)) where
    -- the host is alone again
    pub noted_alone : IsAlone hall new
    noted_alone = (went_out hall lock old within new alone i own note (subst (λ (z : ℕ). Leaves (start_of hall) z note (view within) (view new)) i.cell left)).alone

    -- and the list has it
    pub noted_adds : (view new).seen ≡ add (view old).seen lock e
    noted_adds = left.seen ∙ (λ j. add (i.seen j) (i.cell j) (is j))
