use Rattle.std.proofs.Common.{List, ℕ, ◌∙◌, [], ◌∷◌, ◌++◌, ap, append-nil, arith, length, sym}
use Rattle.session_lang.specs.declared.packed.Apart.{Apart}
use Rattle.session_lang.specs.declared.packed.PackedItem.TheVariants as packs
use Rattle.session_lang.specs.declared.script.Item.{Item}
use Rattle.session_lang.specs.declared.script.Item.TheVariants as items
use Rattle.script_lines.specs.Said.{named_command}
use Rattle.session_lang.proofs.PackedLemmas.{HasMore, last_part, unpacked_push}
use Rattle.session_lang.proofs.items.ItemList.push_named.Goals as goal

pub returns : goal.returns
returns c =
    let i = c.self.inside in
    let bytes = c.args.name.now in
    let run : List ℕ → Item = λ name. items.Run c.args.session (named_command c.args.command name c.args.number) in
    let after : Apart = record { names = c.extend_from_slice.new.self; members = i.apart.members; spans = i.apart.spans } in
    let more : HasMore i.apart after bytes [] [] = record { names = c.in_ok-extend_from_slice.ensures.items; members = sym (append-nil i.apart.members.items); spans = sym (append-nil i.apart.spans.items) } in
    let name = last_part i.apart.names.items bytes after.names.items c.in_ok-at.at more.names (omega arith) in
    unpacked_push i.apart after bytes [] [] more i.packed.items c.push.new.self.items (packs.Named c.args.session c.args.command (length bytes) c.in_ok-at.at c.args.number) (run c.args.name.now) c.in_ok-push.ensures.items c.self.invariant (ap run name)
    ∙ ap (λ all. all ++ run c.args.name.now ∷ []) c.self.view_is
