use Rattle.std.proofs.Common.{ap, arith, ◌∙◌, ◌≡◌}
use Rattle.store_model.specs.declared.store_handle.DescKind.TheVariants.{Callback, Ppi}
use Rattle.store_model.specs.Service.Descriptor.{number_at}
use Rattle.mem_store.proofs.Firings.{desc_at, fires, note_entry, ppi_entry}
use Rattle.mem_store.proofs.Saying.{facts_of}
use Rattle.mem_store.proofs.store.MemStore.firing_at.Goals as goal

pub tell_descriptor-entry-requires : goal.tell_descriptor-entry-requires
tell_descriptor-entry-requires c =
    let s = c.requires.0 in
    let h = c.requires.1 in
    let row = c.in-Some-get.row in
    let is = note_entry s c.args.self.now.index c.args.note row (h.index.rows c.requires.2.0) c.in-Some-get.ensures in
    let named = c.named_are_there.ensures.callback s c.args.note is.entry (facts_of c.args.self.now.behind s h.memory) is.there in
    (s, h.memory, desc_at s Callback is.entry row named is.row_is)

pub overflow_cast-entry : goal.overflow_cast-entry
overflow_cast-entry c =
    let s = c.requires.0 in
    let h = c.requires.1 in
    let row = c.in-Some-get.row in
    let is = note_entry s c.args.self.now.index c.args.note row (h.index.rows c.requires.2.0) c.in-Some-get.ensures in
    let named = c.named_are_there.ensures.callback s c.args.note is.entry (facts_of c.args.self.now.behind s h.memory) is.there in
    let told = c.tell_descriptor-entry.ensures s h.memory (desc_at s Callback is.entry row named is.row_is) in
    let number : c.tell_descriptor-entry.result.1 ≡ number_at s is.entry.descriptor = ap (λ t. t.1) told ∙ ap (λ r. number_at s r.at) is.row_is in
    let small = named.number_is in
    grind (arith, number, small)

pub tell_descriptor-value-requires : goal.tell_descriptor-value-requires
tell_descriptor-value-requires c =
    let s = c.requires.0 in
    let h = c.requires.1 in
    let row = c.in-Some.row in
    let is = ppi_entry s c.args.self.now.index c.args.ppi row (h.index.rows c.requires.2.0) c.in-Some.ensures in
    let named = c.named_are_there.ensures.ppi s c.args.ppi is.entry (facts_of c.args.self.now.behind s h.memory) is.there in
    (s, h.memory, desc_at s Ppi is.entry row named is.row_is)

pub returns : goal.returns
returns c s h met sweep =
    let state = facts_of c.args.self.now.behind s h.memory in
    let says = h.index.rows met.0 in
    let n = c.in-Some-get.row in
    let p = c.in-Some.row in
    let by = note_entry s c.args.self.now.index c.args.note n says c.in-Some-get.ensures in
    let at = ppi_entry s c.args.self.now.index c.args.ppi p says c.in-Some.ensures in
    let note = desc_at s Callback by.entry n (c.named_are_there.ensures.callback s c.args.note by.entry state by.there) by.row_is in
    let ppi = desc_at s Ppi at.entry p (c.named_are_there.ensures.ppi s c.args.ppi at.entry state at.there) at.row_is in
    fires s sweep c.args.ppi c.args.note c.tell_descriptor-entry.result.1 c.tell_descriptor-value.result.1 p n at by
    (ap (λ t. t.1) (c.tell_descriptor-entry.ensures s h.memory note)) (ap (λ t. t.1) (c.tell_descriptor-value.ensures s h.memory ppi))
