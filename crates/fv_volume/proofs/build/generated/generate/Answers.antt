use Rattle.std.proofs.Common.{◌≡◌, None, ◌++◌, ap, ◌∙◌}
use Rattle.fv_volume.specs.{FileSystems.Ffs2, Generated.generated_files, Building.volume_fault, Header.plain}
use Rattle.fv_volume.proofs.Modules.{none_against, only_memory}
use Rattle.fv_volume.proofs.build.generated.generate.Goals as goal

pub returns-clause-memory : goal.returns-clause-memory
returns-clause-memory c =
    let files = c.as_slice.ensures ∙ c.in_ok-add_modules.ensures ∙ ap (λ made. made ++ generated_files c.args.n) c.new-files.ensures in
    let none : volume_fault (plain Ffs2) None c.as_slice.result.now 0x200000 ≡ None = ap (λ fs. volume_fault (plain Ffs2) None fs 0x200000) files ∙ none_against c.args.n c.requires.most in
    only_memory c.build_volume.result c.as_slice.result.now 0x200000 none c.build_volume.ensures.refused

pub returns-clause-volume : goal.returns-clause-volume
returns-clause-volume c =
    let files = c.as_slice.ensures ∙ c.in_ok-add_modules.ensures ∙ ap (λ made. made ++ generated_files c.args.n) c.new-files.ensures in
    rw files at c.build_volume.ensures.built
