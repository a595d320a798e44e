use Rattle.std.proofs.Common.{◌≡◌, ◌++◌, ◌∷◌, [], true, sym, ◌∙◌, subst}
use Rattle.pi_base.specs.Lists.{EachPair}
use Rattle.mod_catalog.specs.{FileType.has_module, ModuleEntry.IsModule, Totals.module_files}
use Rattle.mod_catalog.proofs.Kept.{kept_last, pair_more}
use Rattle.mod_catalog.proofs.modules.add_module.Goals as goal

pub returns : goal.returns
returns c = λ files reads before hold pairs.
    let Is = IsModule c.args.bytes.now files reads c.args.number in
    let read = c.args.read in
    let has : has_module read.file.kind ≡ true = sym c.has_module.ensures ∙ c.if-not-has_module.false in
    let more = pair_more Is (module_files before) c.args.modules.now read c.in_ok-module.module pairs (c.in_ok-module.ensures files reads hold) in
    let grown = subst (λ modules. EachPair Is (module_files before ++ read ∷ []) modules) (sym c.in_ok-push.ensures.ok) more in
    subst (λ files. EachPair Is files c.push.new.self) (sym (kept_last (λ read. has_module read.file.kind) before read has)) grown
