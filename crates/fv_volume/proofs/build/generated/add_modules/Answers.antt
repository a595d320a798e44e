use Rattle.std.proofs.Common.{◌≡◌, ℕ, suc, ◌-◌, List, [], ◌∷◌, ◌++◌, map, ap, ◌∙◌, arith, append_assoc}
use Rattle.fv_volume.specs.{declared.build.new_file.NewFile.NewFile, Generated.module_of, Generated.downward}
use Rattle.fv_volume.proofs.build.generated.add_modules.Goals as goal

-- one module more
one_more : (n left less : ℕ) (files new all : List NewFile) → suc less ≡ left → new ≡ files ++ module_of n less ∷ [] → files ++ map (module_of n) (downward left) ≡ all
    → new ++ map (module_of n) (downward less) ≡ all
one_more n left less files new all down grown rest =
    ap (λ xs. xs ++ map (module_of n) (downward less)) grown ∙ append_assoc files (module_of n less ∷ []) (map (module_of n) (downward less))
    ∙ ap (λ k. files ++ map (module_of n) (downward k)) down ∙ rest

pub loop-left-preserved : goal.loop-left-preserved
loop-left-preserved c =
    let made : c.in_ok-module.field-0 ≡ module_of c.args.n (c.loop-left.left - 1) = c.in_ok-module.ensures in
    record {
      rest = one_more c.args.n c.loop-left.left (c.loop-left.left - 1) c.loop-left.files c.push.new.self _ (omega arith)
          (c.in_ok-push.ensures.ok ∙ ap (λ f. c.loop-left.files ++ f ∷ []) made) c.loop-left.invariant.rest;
      below = omega arith;
    }
