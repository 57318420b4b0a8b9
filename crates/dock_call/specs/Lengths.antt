-- What each test of a length decides, in the order in which code makes them.
use Rattle.std.specs.Prelude.{◌≡◌, ℕ, ◌≤◌, ◌<◌}
use Rattle.std.proofs.Common.{sym, ◌∙◌, arith}
use Rattle.std.proofs.Math.Option.{Option, none, some}
use borrow.Author.Tests.{lt-ltb, le-ltb}
use Rattle.definition.specs.Test.{never}
use Rattle.definition.specs.declared.Refusal.{Refusal}
use Rattle.definition.specs.declared.Refusal.TheVariants.{Limit, Short}
use Rattle.definition.specs.Answer.{Lent, most_cells, most_work, least_work, lengths}
use Rattle.dock_call.specs.declared.lent.Lent.{Lent as Given}

-- the lengths as the definition has them
abbrev pub lent_of : Given → Lent
lent_of l = record { pack = l.pack; class = l.class; pattern = l.pattern; graph = l.graph; work = l.work; text = l.text; goals = l.goals }

module _ (l : Lent) where
  pub pack_long : most_cells < l.pack → lengths l ≡ some (Limit 0)
  unfolding lengths
  pack_long h = rw (lt-ltb most_cells l.pack h, lengths)

  module _ (pack_fits : l.pack ≤ most_cells) where
    pub class_long : most_cells < l.class → lengths l ≡ some (Limit 0)
    unfolding lengths
    class_long h = rw (lt-ltb most_cells l.class h, le-ltb most_cells l.pack pack_fits, lengths)

    module _ (class_fits : l.class ≤ most_cells) where
      pub pattern_long : most_cells < l.pattern → lengths l ≡ some (Limit 0)
      unfolding lengths
      pattern_long h = rw (lt-ltb most_cells l.pattern h, le-ltb most_cells l.pack pack_fits, le-ltb most_cells l.class class_fits, lengths)

      module _ (pattern_fits : l.pattern ≤ most_cells) where
        pub graph_long : most_cells < l.graph → lengths l ≡ some (Limit 0)
        unfolding lengths
        graph_long h = rw (lt-ltb most_cells l.graph h, le-ltb most_cells l.pack pack_fits, le-ltb most_cells l.class class_fits, le-ltb most_cells l.pattern pattern_fits, lengths)

        module _ (graph-fits : l.graph ≤ most_cells) where
          pub work_long : most_work < l.work → lengths l ≡ some (Limit 0)
          unfolding lengths
          work_long h = rw (lt-ltb most_work l.work h, le-ltb most_cells l.pack pack_fits, le-ltb most_cells l.class class_fits, le-ltb most_cells l.pattern pattern_fits, le-ltb most_cells l.graph graph-fits, lengths)

          module _ (work-fits : l.work ≤ most_work) where
            pub text_long : most_cells < l.text → lengths l ≡ some (Limit 0)
            unfolding lengths
            text_long h = rw (lt-ltb most_cells l.text h, le-ltb most_cells l.pack pack_fits, le-ltb most_cells l.class class_fits, le-ltb most_cells l.pattern pattern_fits, le-ltb most_cells l.graph graph-fits, le-ltb most_work l.work work-fits, lengths)

            module _ (text-fits : l.text ≤ most_cells) where
              pub goals_long : most_cells < l.goals → lengths l ≡ some (Limit 0)
              unfolding lengths
              goals_long h = rw (lt-ltb most_cells l.goals h, le-ltb most_cells l.pack pack_fits, le-ltb most_cells l.class class_fits, le-ltb most_cells l.pattern pattern_fits, le-ltb most_cells l.graph graph-fits, le-ltb most_work l.work work-fits, le-ltb most_cells l.text text-fits, lengths)

              module _ (goals-fits : l.goals ≤ most_cells) where
                pub work_short : l.work < least_work l → lengths l ≡ some (Short 4)
                unfolding lengths
                work_short h = rw (le-ltb most_cells l.pack pack_fits, le-ltb most_cells l.class class_fits, le-ltb most_cells l.pattern pattern_fits, le-ltb most_cells l.graph graph-fits, le-ltb most_work l.work work-fits, le-ltb most_cells l.text text-fits, le-ltb most_cells l.goals goals-fits, lt-ltb l.work (least_work l) h, lengths)

                pub all_fit : least_work l ≤ l.work → lengths l ≡ none
                unfolding lengths
                all_fit h = rw (le-ltb most_cells l.pack pack_fits, le-ltb most_cells l.class class_fits, le-ltb most_cells l.pattern pattern_fits, le-ltb most_cells l.graph graph-fits, le-ltb most_work l.work work-fits, le-ltb most_cells l.text text-fits, le-ltb most_cells l.goals goals-fits, le-ltb l.work (least_work l) h, lengths)

-- what the lengths are where nothing is refused
pub record Fit (l : Lent) : Type 0 where
  pub pack : l.pack ≤ most_cells
  pub class : l.class ≤ most_cells
  pub pattern : l.pattern ≤ most_cells
  pub graph : l.graph ≤ most_cells
  pub work : l.work ≤ most_work
  pub text : l.text ≤ most_cells
  pub goals : l.goals ≤ most_cells
  pub least : least_work l ≤ l.work

-- a refusal is something
refused : {r : Refusal} {o : Option Refusal} → o ≡ some r → o ≡ none → ⊥
refused e f = never (let z : some _ ≡ none = sym e ∙ f in cc)

-- what is not above is at most
at_most : (a b : ℕ) → (b < a → ⊥) → a ≤ b
at_most a b n = omega (arith, n)

pub lengths_fit : (l : Lent) → lengths l ≡ none → Fit l
lengths_fit l e =
    let pack = at_most l.pack most_cells (λ h. refused (pack_long l h) e) in
    let class = at_most l.class most_cells (λ h. refused (class_long l pack h) e) in
    let pattern = at_most l.pattern most_cells (λ h. refused (pattern_long l pack class h) e) in
    let graph = at_most l.graph most_cells (λ h. refused (graph_long l pack class pattern h) e) in
    let work = at_most l.work most_work (λ h. refused (work_long l pack class pattern graph h) e) in
    let text = at_most l.text most_cells (λ h. refused (text_long l pack class pattern graph work h) e) in
    let goals = at_most l.goals most_cells (λ h. refused (goals_long l pack class pattern graph work text h) e) in
    let least = at_most (least_work l) l.work (λ h. refused (work_short l pack class pattern graph work text goals h) e) in
    record { pack = pack; class = class; pattern = pattern; graph = graph; work = work; text = text; goals = goals; least = least }
