-- Functions, aggregates and forms by their numbers.
use Rattle.std.specs.Prelude.{ℕ, List, [], ◌∷◌, Option}
use Rattle.terms.specs.declared.comparisons.Comparison.{Comparison}
use Rattle.terms.specs.declared.comparisons.Comparison.TheVariants.{Equal, NotEqual, Less, LessOrEqual, Greater, GreaterOrEqual}
use Rattle.terms.specs.Numbered.{numbered}
use Rattle.queries.specs.declared.aggregates.Function.{Function}
use Rattle.queries.specs.declared.aggregates.Function.TheVariants.{Count, Sum, Min, Max, House}
use Rattle.queries.specs.declared.aggregates.Aggregate.{Aggregate}
use Rattle.queries.specs.declared.aggregates.Aggregate.TheVariants.{CountRows, Of}
use Rattle.queries.specs.declared.nests.Form.{Form}
use Rattle.queries.specs.declared.nests.Form.TheVariants as form
use Rattle.queries.specs.declared.nests.Nest.{Nest}
use Rattle.queries.specs.declared.nests.Nest.TheVariants as nest

abbrev pub function_number : Function → ℕ
function_number Count = 1
function_number Sum = 2
function_number Min = 3
function_number Max = 4
function_number House = 5

abbrev pub functions : List Function
functions = Count ∷ (Sum ∷ (Min ∷ (Max ∷ (House ∷ []))))

-- the function with a number, if there is one
abbrev pub function_numbered : ℕ → Option Function
function_numbered n = numbered function_number functions n

-- the code of an aggregate: 0 is COUNT(*)
abbrev pub aggregate_code : Aggregate → ℕ
aggregate_code CountRows = 0
aggregate_code (Of function column) = function_number function

abbrev pub form_number : Form → ℕ
form_number form.Aggregated = 1
form_number form.In = 2
form_number form.Exists = 3
form_number form.NotExists = 4
form_number form.Any = 5
form_number form.All = 6

abbrev pub forms : List Form
forms = form.Aggregated ∷ (form.In ∷ (form.Exists ∷ (form.NotExists ∷ (form.Any ∷ (form.All ∷ [])))))

-- the form with a number, if there is one
abbrev pub form_numbered : ℕ → Option Form
form_numbered n = numbered form_number forms n

abbrev pub nest_form : Nest → Form
nest_form (nest.Aggregated operand comparison aggregate) = form.Aggregated
nest_form (nest.In operand inner) = form.In
nest_form nest.Exists = form.Exists
nest_form nest.NotExists = form.NotExists
nest_form (nest.Any operand comparison inner) = form.Any
nest_form (nest.All operand comparison inner) = form.All

-- ALL with < or <= compares with MIN, with > or >= with MAX; with = or <> it is refused before this is asked
abbrev pub extreme : Comparison → Function
extreme Equal = Min
extreme NotEqual = Min
extreme Less = Min
extreme LessOrEqual = Min
extreme Greater = Max
extreme GreaterOrEqual = Max
