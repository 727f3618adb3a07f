-- The items of a script in short, and what stands apart.
use Rattle.std.specs.Prelude.{◌≡◌, ℕ, ◌+◌, ◌*◌, ◌^◌, ◌<◌, ◌≤◌, List, drop, get_or, length, map, take}
use Rattle.std.specs.List.{All}
use Rattle.tx_events.specs.Ids.{IsFullMulti, IsXidNumber}
use Rattle.tx_model.specs.declared.command.Command.{Command}
use Rattle.tx_model.specs.declared.command.Command.TheVariants as commands
use Rattle.tx_model.specs.declared.report.DumpOf.{DumpOf}
use Rattle.tx_model.specs.declared.report.DumpOf.TheVariants as dumps
use Rattle.script_lines.specs.Said.{id_command, named_command, plain_command}
use Rattle.session_lang.specs.declared.packed.Apart.{Apart}
use Rattle.session_lang.specs.declared.packed.DumpKind.{DumpKind}
use Rattle.session_lang.specs.declared.packed.DumpKind.TheVariants as kinds
use Rattle.session_lang.specs.declared.packed.Halves.{Halves}
use Rattle.script_lines.specs.declared.said.IdCommand.{IdCommand}
use Rattle.script_lines.specs.declared.said.IdCommand.TheVariants as ids
use Rattle.session_lang.specs.declared.packed.PackedItem.{PackedItem}
use Rattle.session_lang.specs.declared.packed.PackedItem.TheVariants as packs
use Rattle.session_lang.specs.declared.packed.Span.{Span}
use Rattle.session_lang.specs.declared.script.Item.{Item}
use Rattle.session_lang.specs.declared.script.Item.TheVariants as items

abbrev pub whole : Halves → ℕ
whole h = h.high * 2 ^ 32 + h.low

abbrev pub IsIdOf : IdCommand → ℕ → Type 0
IsIdOf ids.Status number = IsXidNumber number
IsIdOf ids.Freeze number = IsXidNumber number
IsIdOf ids.MultiFreeze number = IsFullMulti number

abbrev pub dump_of : DumpKind → ℕ → DumpOf
dump_of kinds.Log page = dumps.Log
dump_of kinds.Xact page = dumps.Xact page
dump_of kinds.Subtrans page = dumps.Subtrans page
dump_of kinds.Offsets page = dumps.Offsets page
dump_of kinds.Members page = dumps.Members page

abbrev pub dump_item : DumpOf → Span → Item
dump_item what span = items.Dump what (whole span.at) span.length

abbrev pub no_span : Span
no_span = record { at = record { high = 0; low = 0 }; length = 0 }

-- the item that is meant
abbrev pub unpacked : Apart → PackedItem → Item
unpacked apart (packs.Plain session command) = items.Run session (plain_command command)
unpacked apart (packs.Short session command size name number) =
    items.Run session (named_command command (take size name) number)
unpacked apart (packs.Named session command size at number) =
    items.Run session (named_command command (take size (drop at apart.names.items)) number)
unpacked apart (packs.Did session x) = items.Run session (commands.Did x)
unpacked apart (packs.OfId session command id) = items.Run session (id_command command (whole id))
unpacked apart (packs.Multi session at count) =
    items.Run session (commands.Multi (take count (drop at apart.members.items)))
unpacked apart packs.Round = items.Round
unpacked apart packs.Checkpoint = items.Checkpoint
unpacked apart (packs.Crash how) = items.Crash how
unpacked apart (packs.Dump kind page at) = dump_item (dump_of kind page) (get_or apart.spans.items at no_span)

-- a name has its bytes, what stands apart is there, and an id is one
abbrev pub IsPacked : Apart → PackedItem → Type 0
IsPacked apart (packs.Short session command size name number) = (size ≤ 4) × (length name ≡ 4)
IsPacked apart (packs.Named session command size at number) = (size ≤ 16) × (at + size ≤ length apart.names.items)
IsPacked apart (packs.OfId session command id) = IsIdOf command (whole id)
IsPacked apart (packs.Multi session at count) = at + count ≤ length apart.members.items
IsPacked apart (packs.Dump kind page at) = at < length apart.spans.items
IsPacked apart _ = Unit {0}

-- the items of a list in short
abbrev pub unpacked_all : Apart → List PackedItem → List Item
unpacked_all apart packed = map (unpacked apart) packed

abbrev pub ArePacked : Apart → List PackedItem → Type 0
ArePacked apart packed = All (IsPacked apart) packed
