-- What stands apart stays where it is, and the next item's part comes behind it.
use Rattle.std.proofs.Common.{◌≡◌, ℕ, ◌+◌, ◌≤◌, List, [], ◌∷◌, ◌++◌, refl, ap, ◌∙◌, arith, drop, get_or, length, length-append, suc, take}
use Rattle.std.proofs.Math.Seq.{drop-append_seam, get_or-append_seam, take-length}
use Rattle.std.proofs.lemmas.List.{drop-append-le, get_or_append_left, length-drop, map-append, take-append-le}
use Rattle.std.proofs.lemmas.List.Elements.{All-from_recursion, All-push, recursion_from_All}
use Rattle.std.specs.List.{AllByRecursion}
use Rattle.tx_model.specs.declared.command.Command.TheVariants as commands
use Rattle.tx_model.specs.declared.command.Pair.{Pair}
use Rattle.session_lang.specs.declared.packed.Apart.{Apart}
use Rattle.session_lang.specs.declared.packed.PackedItem.{PackedItem}
use Rattle.session_lang.specs.declared.packed.PackedItem.TheVariants as packs
use Rattle.session_lang.specs.declared.packed.Span.{Span}
use Rattle.session_lang.specs.declared.script.Item.{Item}
use Rattle.session_lang.specs.declared.script.Item.TheVariants as items
use Rattle.script_lines.specs.Said.{named_command}
use Rattle.session_lang.specs.Packed.{ArePacked, IsPacked, dump_item, dump_of, no_span, unpacked, unpacked_all}

-- more stands apart, behind what stood there
pub record HasMore (before after : Apart) (bytes : List ℕ) (pairs : List Pair) (places : List Span) : Type 0 where
  pub names : after.names.items ≡ before.names.items ++ bytes
  pub members : after.members.items ≡ before.members.items ++ pairs
  pub spans : after.spans.items ≡ before.spans.items ++ places

part_stays : {X : Type 0} (all old more : List X) (at size : ℕ) → all ≡ old ++ more → at + size ≤ length old → take size (drop at all) ≡ take size (drop at old)
part_stays all old more at size e l =
    let left = length-drop at old in
    ap (λ xs. take size (drop at xs)) e ∙ ap (take size) (drop-append-le at old more (omega arith)) ∙ take-append-le size (drop at old) more (omega arith)

longer : {X : Type 0} (all old more : List X) (n : ℕ) → all ≡ old ++ more → n ≤ length old → n ≤ length all
longer all old more n e l = let sum = ap length e ∙ length-append old more in omega arith

module _ (before after : Apart) (bytes : List ℕ) (pairs : List Pair) (places : List Span) (more : HasMore before after bytes pairs places) where
  item_stays : (p : PackedItem) → IsPacked before p → unpacked after p ≡ unpacked before p
  item_stays (packs.Plain session command) i = refl
  item_stays (packs.Short session command size name number) i = refl
  item_stays (packs.Named session command size at number) i = ap (λ name. items.Run session (named_command command name number)) (part_stays after.names.items before.names.items bytes at size more.names i.1)
  item_stays (packs.Did session x) i = refl
  item_stays (packs.OfId session command id) i = refl
  item_stays (packs.Multi session at count) i = ap (λ l. items.Run session (commands.Multi l)) (part_stays after.members.items before.members.items pairs at count more.members i)
  item_stays packs.Round i = refl
  item_stays packs.Checkpoint i = refl
  item_stays (packs.Crash how) i = refl
  item_stays (packs.Dump kind page at) i = ap (dump_item (dump_of kind page)) (ap (λ all. get_or all at no_span) more.spans ∙ get_or_append_left before.spans.items places no_span at i)

  still_packed : (p : PackedItem) → IsPacked before p → IsPacked after p
  still_packed (packs.Plain session command) i = tt
  still_packed (packs.Short session command size name number) i = i
  still_packed (packs.Named session command size at number) i = (i.0, longer after.names.items before.names.items bytes (at + size) more.names i.1)
  still_packed (packs.Did session x) i = tt
  still_packed (packs.OfId session command id) i = i
  still_packed (packs.Multi session at count) i = longer after.members.items before.members.items pairs (at + count) more.members i
  still_packed packs.Round i = tt
  still_packed packs.Checkpoint i = tt
  still_packed (packs.Crash how) i = tt
  still_packed (packs.Dump kind page at) i = longer after.spans.items before.spans.items places (suc at) more.spans i

  all_stay : (packed : List PackedItem) → AllByRecursion (IsPacked before) packed → AllByRecursion (IsPacked after) packed × (unpacked_all after packed ≡ unpacked_all before packed)
  all_stay [] a = (tt, refl)
  all_stay (p ∷ packed) a =
      let stay = all_stay packed a.1 in
      ((still_packed p a.0, stay.0), rw (item_stays p a.0, stay.1) refl)

  -- the items are still packed
  pub still_all : (packed : List PackedItem) → ArePacked before packed → ArePacked after packed
  still_all packed a = All-from_recursion (IsPacked after) packed (all_stay packed (recursion_from_All (IsPacked before) packed a)).0

  -- and with one more
  pub packed_push : (packed packed' : List PackedItem) (p : PackedItem) → packed' ≡ packed ++ p ∷ [] → ArePacked before packed → IsPacked after p → ArePacked after packed'
  packed_push packed packed' p e a i = rw e (All-push (IsPacked after) packed p (still_all packed a) i)

  pub unpacked_push : (packed packed' : List PackedItem) (p : PackedItem) (x : Item) → packed' ≡ packed ++ p ∷ [] → ArePacked before packed → unpacked after p ≡ x → unpacked_all after packed' ≡ unpacked_all before packed ++ x ∷ []
  unpacked_push packed packed' p x e a is =
      rw e (
      map-append (unpacked after) packed (p ∷ [])
      ∙ ap (λ l. l ++ unpacked after p ∷ []) (all_stay packed (recursion_from_All (IsPacked before) packed a)).1
      ∙ ap (λ y. unpacked_all before packed ++ y ∷ []) is
      )

-- the last part
pub last_part : {X : Type 0} (old part all : List X) (at : ℕ) → all ≡ old ++ part → at ≡ length old → take (length part) (drop at all) ≡ part
last_part old part all at e n = ap (λ xs. take (length part) (drop at xs)) e ∙ ap (λ k. take (length part) (drop k (old ++ part))) n ∙ ap (take (length part)) (drop-append_seam old part) ∙ take-length part

pub last_one : {X : Type 0} (old : List X) (x none : X) (all : List X) (at : ℕ) → all ≡ old ++ x ∷ [] → at ≡ length old → get_or all at none ≡ x
last_one old x none all at e n = ap (λ xs. get_or xs at none) e ∙ ap (λ k. get_or (old ++ x ∷ []) k none) n ∙ get_or-append_seam old x [] none
