use Rattle.std.proofs.Common.{◌≡◌, ℕ, ◌-◌, ◌≤◌, List, ◌++◌, replicate, take, ap, ◌∙◌, arith, append_assoc}
use Rattle.std.proofs.lemmas.List.{replicate-append-replicate, take-replicate}
use Rattle.fv_volume.proofs.Outcomes.{on_ok}
use Rattle.fv_volume.proofs.build.fill.fill.Goals as goal

one_more : (count left byte : ℕ) (out new all : List ℕ) → count ≤ left → new ≡ out ++ replicate count byte → out ++ replicate left byte ≡ all
    → new ++ replicate (left - count) byte ≡ all
one_more count left byte out new all most grown rest =
    ap (λ xs. xs ++ replicate (left - count) byte) grown ∙ append_assoc out (replicate count byte) (replicate (left - count) byte)
    ∙ ap (λ xs. out ++ xs) (replicate-append-replicate count (left - count) byte) ∙ ap (λ n. out ++ replicate n byte) (omega arith) ∙ rest

the_last : (count left byte : ℕ) (out new all : List ℕ) → left ≤ count → out ++ replicate left byte ≡ all → new ≡ out ++ take left (replicate count byte) → new ≡ all
the_last count left byte out new all most rest grown = grown ∙ ap (λ xs. out ++ xs) (take-replicate left count byte most) ∙ rest

pub chunks-preserved : goal.chunks-preserved
chunks-preserved c = one_more 64 c.chunks.left c.args.byte c.chunks.out c.append.new.self _ c.chunks-test.true c.in_ok-append.ensures.ok c.chunks.invariant

pub returns : goal.returns
returns c = on_ok c.append-2.result _ _ (the_last 64 c.chunks.left c.args.byte c.chunks.out c.append-2.new.self _ (omega arith) c.chunks.invariant) c.append-2.ensures.ok
