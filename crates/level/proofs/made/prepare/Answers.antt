-- The word by its two parts, each by what the parts made ready say.
-- Assumes nothing.
use borrow.Author.Rules.{rules}
use mir.Syntax.{w16}
use mir.Val.{Fits}
use Prim.Native.Nat.{◌+◌, ◌*◌}
use mathlib.Core.Path.{◌∙◌, ap, ap₂}
use mathlib.Core.Bool.{not, ◌&&◌, ◌||◌}
use Rattle.level.specs.Word.{of_second, frozen, shown_at}
use Rattle.level.specs.Eight.{eight_at, eight_edge}
use Rattle.level.specs.Ready.{first_at, first_edge, unmasked_at, unmasked_edge, ready_word, ready_edge}
use Rattle.level.specs.Edges.{mask_edge, second_edge_of, edge_of}
use Rattle.level.specs.Made.{second_word}
use Rattle.level.proofs.Making.{unmasked_word, held_small, two_parts}
use Rattle.level.proofs.made.prepare.Goals as goal

pub returns : goal.returns
unfolding ready_word unmasked_at ready_edge unmasked_edge edge_of
returns c = let l = c.args.line in
    let f = c.first_of-first in
    let s = c.second_of in
    let o = c.new in
    record {
      words = λ p h.
          let q = shown_at l.mask1 l.mask2 p in
          ap₂ (λ v e. v + e * 64)
          (s.ensures.levels q _
          (held_small l.mask1 p _ (held_small l.mask2 p p h (λ m e. let f : Fits w16 m.freeze = search rules in f.fits))
          (λ m e. let f : Fits w16 m.freeze = search rules in f.fits))
          ∙ ap (λ n. of_second l.second q (λ a. second_word a q) n)
          (ap (λ n. first_at f.result (n + q)) f.ensures.place ∙ f.ensures.same (l.origin + q))
          ∙ unmasked_word l q)
          (ap (λ t. eight_at t p) o.ensures ∙ c.edges_of.ensures.by_index p)
          ∙ two_parts l p;
      edges = λ p some h.
          let v =
          s.ensures.edges p _ h
          ∙ ap (λ b. of_second l.second p (λ a. second_edge_of a p) b)
          (ap (λ n. first_edge f.result (n + p)) f.ensures.place ∙ f.ensures.edges (l.origin + p)) in
          let e = ap (λ t. eight_edge t p) o.ensures ∙ c.edges_of.ensures.by_index_2 p some in
          λ i. ((e i || mask_edge l.mask1 p) || mask_edge l.mask2 p) || (not (frozen l.mask1 p) && (not (frozen l.mask2 p) && v i));
    }
