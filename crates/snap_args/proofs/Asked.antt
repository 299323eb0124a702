-- What the arguments that the parser found ask for, in terms of the grammar.
use Rattle.std.proofs.Common.{◌≡◌, ◌≢◌, ◌∙◌, Err, IfOk, List, None, Ok, Option, Result, Some, [], ◌∷◌, ap, arith, inl}
use Rattle.std.proofs.Common.{inr, option_map, refl, subst, sym, true, unwrap_or}
use Rattle.std.proofs.Math.Path.{fun_ext}
use Rattle.clap.specs.Words.{App, HasKind, HasMatchesOf, Kinds, Row, Text, fault_of, found_of, is_simple}
use Rattle.clap.specs.Words.{is_simple_and_free, rows_of, subcommand_name_of, subcommand_of, subcommand_rows_of}
use Rattle.clap.specs.declared.{ArgMatches.ArgMatches, error.Error.Error}
use Rattle.clap.proofs.{OnLiterals.clap_on_literals, WalkLemmas.first_value-rows, WalkLemmas.raw_values-rows}
use Rattle.snap_order.specs.{Order.IsWithinLimits, declared.order.Order.Order}
use Rattle.snap_args.specs.{Orders.IsAskedBy, Orders.IsParseFault, Orders.IsTold, Orders.Means, Grammar.grammar_of}
use Rattle.snap_args.specs.Words.{Reads, word_in, word_of, words_in, words_of}
use Rattle.snap_args.specs.declared.fault.WordFault.{TheVariants.Help, TheVariants.Memory, TheVariants.Words, WordFault}

simple : is_simple grammar_of ≡ true
unfolding clap_on_literals grammar_of
simple = refl

pub simple_and_free : is_simple_and_free grammar_of ≡ true
unfolding clap_on_literals grammar_of
simple_and_free = refl

both : {X : Type 0} (f : X → Text) (g : X → List Row) (o : Option X) (name : Text) (rows : List Row)
    → option_map f o ≡ Some name → option_map (λ (p : Text × List Row). p.1) (option_map {U = Text
    × List Row} (λ x. (f x, g x)) o) ≡ Some rows
    → option_map {U = Text × List Row} (λ x. (f x, g x)) o ≡ Some (name, rows)
both f g None name rows named rowed = cc
both f g (Some x) name rows named rowed =
    let same_name : f x ≡ name = cc in
    let same_rows : g x ≡ rows = cc in
    rw (same_name, same_rows)

-- the command that a parse found
pub command_met : (words : List Text) (app : App) → app ≡ grammar_of → (m sub : ArgMatches)
    → HasMatchesOf app words m → (name : Text) → Some name ≡ subcommand_name_of m
    → Some (rows_of (found_of sub)) ≡ option_map (λ p. p.1) (subcommand_rows_of m)
    → subcommand_of grammar_of words ≡ Some (name, rows_of (found_of sub))
command_met words app is m sub has name named rowed =
    let found = (has (ap is_simple is ∙ simple)).1 in
    let here : subcommand_rows_of m ≡ Some (name, rows_of (found_of sub)) = both _ _ _ name _ (sym named) (sym rowed) in
    ap (λ (a : App). subcommand_of a words) (sym is) ∙ sym found ∙ here

one_is : (m : ArgMatches) → word_of m ≡ word_in (rows_of (found_of m))
one_is m = fun_ext (λ what. first_value-rows (found_of m) what)

all_are : (m : ArgMatches) → words_of m ≡ words_in (rows_of (found_of m))
all_are m = fun_ext (λ what. ap (λ (o : Option (List Text)). unwrap_or o []) (raw_values-rows (found_of m) what))

-- what the arguments that the parser found ask for is what the words mean
pub meant : (words : List Text) (name : Text) (m : ArgMatches) → fault_of grammar_of words ≡ []
    → subcommand_of grammar_of words ≡ Some (name, rows_of (found_of m)) → (r : Result Order WordFault)
    → Reads r (λ o. IsWithinLimits o × IsAskedBy name (word_of m) (words_of m) o)
    → IfOk r IsWithinLimits × Reads r (Means words)
meant words name m taken command (Ok o) is = (
  is.0,
  record {
    found = (name, rows_of (found_of m));
    taken = taken;
    command = command;
    asked = subst (λ (all : Text → List Text). IsAskedBy name (word_in (rows_of (found_of m))) all o) (all_are m)
        (subst (λ (of : Text → Option Text). IsAskedBy name of (words_of m) o) (one_is m) is.1);
    limits = is.0;
  },
)
meant words name m taken command (Err why) none = (
  tt,
  λ other o means.
      let same : means.found ≡ (name, rows_of (found_of m)) = cc in
      let asked = subst (λ (f : Text × List Row). IsAskedBy f.0 (word_in f.1) (words_in f.1) o) same means.asked in
      none other o (
        means.limits,
        subst (λ (of : Text → Option Text). IsAskedBy name of (words_of m) o) (sym (one_is m))
            (subst (λ (all : Text → List Text).
            IsAskedBy name (word_in (rows_of (found_of m))) all o) (sym (all_are m)) asked),
      ),
)

-- where the grammar takes the words, the parser fails only for lack of memory
pub no_fault : (kinds : Kinds) (error : Error) (why : WordFault) → HasKind kinds error → kinds ≡ []
    → IsParseFault error why → why ≢ Memory → ⊥
no_fault [] error Memory (inl wanting) none is other = other refl
no_fault [] error why (inl wanting) none is other = absurd (grind arith)
no_fault [] error why (inr among) none is other = absurd among
no_fault (k ∷ ks) error why has none is other = absurd (cc)

-- the parser's error is told as its kind asks
pub told : (words : List Text) (error : Error) (why : WordFault) → IsParseFault error why
    → HasKind (fault_of grammar_of words) error → IsTold words why
told words error Memory is kind = tt
told words error why is (inl wanting) = absurd (grind arith)
told words error (Help e) is (inr among) = rw is.0 (among, is.1)
told words error (Words e) is (inr among) = rw is.0 (among, is.1)
told words error why is (inr among) = absurd is
