use Rattle.std.proofs.Common.{List, ◌∙◌, [], ◌∷◌, ◌++◌, ap, append-nil, arith, drop, sym, take}
use Rattle.tx_model.specs.declared.command.Command.TheVariants as commands
use Rattle.tx_model.specs.declared.command.Pair.{Pair}
use Rattle.session_lang.specs.declared.packed.Apart.{Apart}
use Rattle.session_lang.specs.declared.packed.PackedItem.TheVariants as packs
use Rattle.session_lang.specs.declared.script.Item.{Item}
use Rattle.session_lang.specs.declared.script.Item.TheVariants as items
use Rattle.session_lang.proofs.PackedLemmas.{HasMore, last_part, unpacked_push}
use Rattle.session_lang.proofs.items.ItemList.push_multi.Goals as goal

pub returns : goal.returns
returns c =
    let i = c.self.inside in
    let pairs = c.items-pairs.result.now in
    let run : List Pair → Item = λ members. items.Run c.args.session (commands.Multi members) in
    let after : Apart = record { names = i.apart.names; members = c.extend_from_slice.new.self; spans = i.apart.spans } in
    let more : HasMore i.apart after [] pairs [] = record { names = sym (append-nil i.apart.names.items); members = c.in_ok-extend_from_slice.ensures.items; spans = sym (append-nil i.apart.spans.items) } in
    let members = ap (λ n. take n (drop c.in_ok-at.at after.members.items)) (omega arith) ∙ last_part i.apart.members.items pairs after.members.items c.in_ok-at.at more.members (omega arith) ∙ c.items-pairs.ensures in
    unpacked_push i.apart after [] pairs [] more i.packed.items c.push.new.self.items (packs.Multi c.args.session c.in_ok-at.at c.in_ok-count.count) (run c.args.members.now) c.in_ok-push.ensures.items c.self.invariant (ap run members)
    ∙ ap (λ all. all ++ run c.args.members.now ∷ []) c.self.view_is
