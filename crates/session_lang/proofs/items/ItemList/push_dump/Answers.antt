use Rattle.std.proofs.Common.{◌∙◌, [], ◌∷◌, ◌++◌, ap, append-nil, arith, sym}
use Rattle.session_lang.specs.declared.packed.Apart.{Apart}
use Rattle.session_lang.specs.declared.packed.PackedItem.TheVariants as packs
use Rattle.session_lang.specs.declared.packed.Span.{Span}
use Rattle.session_lang.specs.declared.script.Item.{Item}
use Rattle.session_lang.specs.declared.script.Item.TheVariants as items
use Rattle.session_lang.specs.Packed.{dump_item, dump_of, no_span}
use Rattle.session_lang.proofs.PackedLemmas.{HasMore, last_one, unpacked_push}
use Rattle.session_lang.proofs.items.ItemList.push_dump.Goals as goal

pub returns : goal.returns
returns c =
    let i = c.self.inside in
    let parts = c.dump_parts-kind in
    let span : Span = record { at = c.of.result; length = c.args.length } in
    let dump : Item = items.Dump c.args.what c.args.at c.args.length in
    let after : Apart = record { names = i.apart.names; members = i.apart.members; spans = c.push.new.self } in
    let more : HasMore i.apart after [] [] (span ∷ []) = record { names = sym (append-nil i.apart.names.items); members = sym (append-nil i.apart.members.items); spans = c.in_ok-push.ensures.items } in
    let last = last_one i.apart.spans.items span no_span after.spans.items c.in_ok-place.place more.spans (omega arith) in
    let is = ap (dump_item (dump_of parts.result.0 parts.result.1)) last ∙ ap (λ what. dump_item what span) parts.ensures ∙ ap (λ at. items.Dump c.args.what at c.args.length) c.of.ensures in
    unpacked_push i.apart after [] [] (span ∷ []) more i.packed.items c.push-2.new.self.items (packs.Dump parts.result.0 parts.result.1 c.in_ok-place.place) dump c.in_ok-push-2.ensures.items c.self.invariant is
    ∙ ap (λ all. all ++ dump ∷ []) c.self.view_is
