-- `find::least_place` meets its contract: where the count says that some row meets the wishes, by the search, and else there is none. Assumes nothing.
use mathlib.Core.Path.{◌≡◌, sym, ap, ◌∙◌}
use Prim.Native.Nat.{ℕ}
use mathlib.Core.List.{List}
use Rattle.perm.specs.Lists.{some}
use Rattle.gray.specs.Order.{S}
use Rattle.find.specs.Meeting.{meets}
use Rattle.find.specs.Search.{place_found}
use Rattle.find.proofs.Answered.{none_least}
use Rattle.find.proofs.least_place.Goals.{After-can_meet}
use Rattle.find.proofs.least_place.Goals as goal

size-is : (c : After-can_meet) → c.new-sought.result.size ≡ c.args.n
size-is c = c.new-sought.ensures.size ∙ c.requires.n_bound.2

met-is : (c : After-can_meet) → c.can_meet.result ≡ some (meets c.args.pattern.now) (S c.args.n c.args.k)
met-is c =
    c.can_meet.ensures
    ∙ ap (λ (w : List ℕ). some (meets w) (S c.new-sought.result.size c.args.k)) c.new-sought.ensures.values
    ∙ ap (λ (n : ℕ). some (meets c.args.pattern.now) (S n c.args.k)) (size-is c)

pub first-requires : goal.first-requires
first-requires c = record {
  table = c.requires.table;
  searchable = record {
    below = rw (size-is (goal.at.first-requires c).After-can_meet) c.requires.n_bound.1;
    met = sym c.can_meet.ensures ∙ c.if-not-can_meet.false;
  };
}

pub returns-then-not-can_meet : goal.returns-then-not-can_meet
returns-then-not-can_meet c =
    none_least (meets c.args.pattern.now) c.args.n c.args.k c.args.place c.requires.n_bound.1
    (sym (met-is (goal.at.returns-then-not-can_meet c).After-can_meet) ∙ c.if-not-can_meet.true)

pub returns : goal.returns
returns c =
    c.first.ensures.place
    ∙ ap (λ (w : List ℕ). place_found (meets w) (S c.new-sought.result.size c.args.k) c.args.place) c.new-sought.ensures.values
    ∙ ap (λ (n : ℕ). place_found (meets c.args.pattern.now) (S n c.args.k) c.args.place) (size-is (goal.at.returns c).After-can_meet)
