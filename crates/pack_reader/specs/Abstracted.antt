-- What taking up the abstract record answers.
use Rattle.std.specs.Prelude.{Ok, Err}
use Rattle.std.specs.Prelude.{◌≡◌, List, ℕ, ◌+◌, ◌≤◌, ◌<◌, length}
use Rattle.std.proofs.Math.Path.{sym}
use Rattle.std.proofs.Common.{ap, subst, ◌∙◌, arith}
use Rattle.definition.specs.Little.{le}
use Rattle.definition.specs.Pack.{prop, Pack, Abstract, symbol_of, with_abstract}
use Rattle.definition.specs.Frame.{good}
use Rattle.definition.specs.Certificate.{take_abstract}
use Rattle.definition.proofs.Laws.DecideCertificate.{abstract_again, abstract-length, abstract-symbol, abstract_predicate, abstract_position, abstract-taken}
use Rattle.pack_tables.specs.Place.{Place, body_at}
use Rattle.pack_tables.specs.Catalog.{records_of, EnteringIn, More}
use Rattle.pack_tables.specs.declared.catalog.Catalog.{Catalog}
use Rattle.pack_read.specs.Body.{abstract_in}
use Rattle.pack_read.specs.Reads.{Reads, AbstractForm, length_symbols, length_abstracts, read_abstract}
use Rattle.pack_read.specs.Says.{OfPack}
use Rattle.pack_reader.specs.Taking.{Reading, Whole, behind, Takes, body-at, may_enter, pushed-takes}
use Rattle.pack_reader.specs.declared.taken.Fault.TheVariants.{Bad}

module _ (bytes work body : List ℕ) (c : Catalog) (at : ℕ) (R : Reading bytes work c at) (W : Whole bytes body at) where
  abbrev place : Place
  place = record { at = at; from = at + 6 }

  abbrev rs : ℕ → List Place
  rs = records_of work c

  -- one was given before
  pub second-abstract : (length (rs 8) ≡ 0 → ⊥) → Takes bytes work work c 8 (behind at body) (λ P. take_abstract P body) (Err Bad)
  second-abstract n P r = abstract_again P body (λ e. n (sym (length_abstracts bytes rs P r) ∙ e))

  module _ (none : length (rs 8) ≡ 0) where
    first : (P : Pack) → Reads bytes rs P → length P.abstracts ≡ 0
    first P r = length_abstracts bytes rs P r ∙ none

    pub unlike-abstract : (length body ≡ 8 → ⊥) → Takes bytes work work c 8 (behind at body) (λ P. take_abstract P body) (Err Bad)
    unlike-abstract n P r = abstract-length P body (first P r) n

    module _ (whole : length body ≡ 8) where
      body_is : body_at bytes place ≡ body
      body_is = body-at bytes body at (at + 6) W

      -- no symbol
      pub symbolless_abstract : length (rs 1) ≤ le 4 body 0 → Takes bytes work work c 8 (behind at body) (λ P. take_abstract P body) (Err Bad)
      symbolless_abstract h P r = abstract-symbol P body (first P r) whole (omega (arith, length_symbols bytes rs P r))

      module _ (symbol : le 4 body 0 < length (rs 1)) (output : ℕ) (output-is : OfPack bytes work c (λ P. (symbol_of P (le 4 body 0)).output) output) where
        there : (P : Pack) → Reads bytes rs P → le 4 body 0 < length P.symbols
        there P r = omega (arith, length_symbols bytes rs P r)

        pub predicate_abstract : output ≡ prop → Takes bytes work work c 8 (behind at body) (λ P. take_abstract P body) (Err Bad)
        predicate_abstract e P r = abstract_predicate P body (first P r) whole (there P r) (sym (output-is P r) ∙ e)

        module _ (other : output ≡ prop → ⊥) (arity : ℕ) (arity-is : OfPack bytes work c (λ P. length (symbol_of P (le 4 body 0)).inputs) arity) where
          constructs : (P : Pack) → Reads bytes rs P → (symbol_of P (le 4 body 0)).output ≡ prop → ⊥
          constructs P r e = other (output-is P r ∙ e)

          pub outside_abstract : arity ≤ le 4 body 4 → Takes bytes work work c 8 (behind at body) (λ P. take_abstract P body) (Err Bad)
          outside_abstract h P r = abstract_position P body (first P r) whole (there P r) (constructs P r) (omega (arith, arity-is P r))

          module _ (position : le 4 body 4 < arity) where
            pub push-abstract : EnteringIn bytes work c 8 place
            push-abstract = let e : at + 6 + 0 ≡ at + 6 = omega arith in subst (λ (f : ℕ). EnteringIn bytes work c 8 (record { at = at; from = f })) e (may_enter bytes work body c at 8 0 R W (omega (arith, whole)) (omega arith) (omega arith) (λ h. absurd (omega arith)))

            form : AbstractForm bytes place
            form = subst (λ (b : List ℕ). 8 ≤ length b) (sym body_is) (omega (arith, whole))

            abstract_is : record { constructor = le 4 body 0; position = le 4 body 4 } ≡ abstract_in (body_at bytes place)
            unfolding abstract_in
            abstract_is = sym (ap abstract_in body_is)

            pub new-abstract : (work' : List ℕ) → More bytes work work' c 8 place → Takes bytes work work' c 8 (behind at body) (λ P. take_abstract P body) (Ok tt)
            new-abstract work' M =
                pushed-takes bytes work work' c at (behind at body) 8 place (λ P. take_abstract P body) (λ P. with_abstract P (abstract_in (body_at bytes place))) R (omega (arith, whole))
                (λ P r. abstract-taken P body (first P r) whole (there P r) (constructs P r) (omega (arith, arity-is P r)) ∙ ap (λ (x : Abstract). good (with_abstract P x)) abstract_is)
                (λ P r m. read_abstract bytes rs (records_of work' c) P r place m form) M
