use Rattle.std.proofs.Common.{List, [], ◌∷◌, ◌++◌, sym, ap, append_assoc, ◌∙◌}
use Rattle.std.specs.Vec.Iter.{into_iter_items}
use Rattle.mod_catalog.specs.declared.read_file.ReadFile.{ReadFile}
use Rattle.mod_catalog.proofs.modules.made_modules.Goals as goal

pub reads-preserved : goal.reads-preserved
reads-preserved c = record {
  split = c.reads.invariant.split ∙ ap (λ (t : List ReadFile). c.reads.yielded ++ t) c.in-Some.ensures.steps.0 ∙ sym (append_assoc c.reads.yielded (c.in-Some.read ∷ []) (into_iter_items c.next.new.self));
  modules = λ files hold. c.in_ok-add_module.ensures files c.args.reads c.reads.yielded hold (c.reads.invariant.modules files hold);
}
