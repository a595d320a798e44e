use Rattle.std.proofs.Common.{◌≡◌, ◌≤◌, List, take, drop, length, arith, ap, sym, subst, ◌∙◌}
use Rattle.store_model.specs.StoreState.{Range, StoreState}
use Rattle.phys_mem.specs.declared.memory.PhysMem.{PhysMem}
use Rattle.store_laws.specs.Moving.{Done}
use Rattle.store_laws.proofs.Nodes.{drop_next}
use Rattle.heap_store.specs.Half.{IsHalf, with_links}
use Rattle.heap_store.specs.Linked.{Link, links_of, address, first_of}
use Rattle.heap_store.proofs.Links.{is_link, few_links}
use Rattle.heap_store.proofs.Walks.{more_done, some_left, none_left, take_all, none_past}
use Rattle.heap_store.proofs.chain.move_chain.Goals as goal

all_done : (s : StoreState) (to : Range) (done : Done) (some links : List Link) (memory : PhysMem) → some ≡ links → IsHalf s to (with_links done some) memory → IsHalf s to (with_links done links) memory
all_done s to done some links memory e h = subst (λ xs. IsHalf s to (with_links done xs) memory) e h

pub nodes-init : goal.nodes-init
nodes-init c s to done list ready has first = (has, first)

pub returns-then-at-eq0 : goal.returns-then-at-eq0
returns-then-at-eq0 c s to done list ready has first =
    let h = c.nodes.invariant s to done list ready has first in
    let i = c.nodes._step in
    let links = links_of s list in
    all_done s to done (take i links) links c.nodes.memory (take_all links i (none_left s to c.args.course.now list to.base c.nodes.at i ready c.if-at-eq0.true h.1)) h.0

pub move_node-at-requires : goal.move_node-at-requires
move_node-at-requires c =
    let r = c.requires.list in
    let s = r.0 in
    let list = r.3 in
    let ready = r.4 in
    let h = c.nodes.invariant s r.1 r.2 list ready r.5 r.6 in
    let i = c.nodes._step in
    let one = some_left s r.1.base c.nodes.at (drop i (links_of s list)) c.if-at-eq0.false h.1 in
    record { there = (s, r.1, with_links r.2 (take i (links_of s list)), one.0, one.1, ready, is_link s r.1 list i one.0 one.1 ready.state ready.after one.2, h.0, one.3) }

pub nodes-preserved : goal.nodes-preserved
nodes-preserved c s to done list ready has first =
    let h = c.nodes.invariant s to done list ready has first in
    let i = c.nodes._step in
    let links = links_of s list in
    let one = some_left s to.base c.nodes.at (drop i links) c.if-at-eq0.false h.1 in
    let link = is_link s to list i one.0 one.1 ready.state ready.after one.2 in
    let before = with_links done (take i links) in
    let moved = c.move_node-at.ensures.moved s to before one.0 one.1 ready link h.0 one.3 in
    let next = c.move_node-at.ensures.next s to before one.0 one.1 ready link h.0 one.3 in (
      subst (λ (d : Done). IsHalf s to d c.move_node-at.new.memory) (sym (more_done done links i one.0 one.1 one.2)) moved,
      next ∙ ap (λ xs. address to.base (first_of xs)) (sym (drop_next links i one.0 one.1 one.2)),
    )

pub returns : goal.returns
returns c s to done list ready has first =
    let h = c.nodes.invariant s to done list ready has first in
    let i = c.nodes._step in
    let len = ready.way.len in
    let few = few_links s list ready.state in
    let past : length (links_of s list) ≤ i = omega (arith, few, len, c.nodes-test.false) in
    all_done s to done (take i (links_of s list)) (links_of s list) c.nodes.memory (take_all (links_of s list) i (none_past (links_of s list) i past)) h.0
