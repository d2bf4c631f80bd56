-- The one route, as the router stores it: words that no definition of this repository's needs.
use Rattle.std.specs.Prelude.{[], ◌∷◌, codes}
use Rattle.matchit.specs.Rows.{RowsOf, param_token}
use Rattle.matchit.specs.Router.{RouteOf}

-- the route that is a parameter, whose name is four bytes long
abbrev pub name_route : RouteOf (Unit {0})
name_route = record { pattern = param_token ∷ []; text = codes "{name}"; names = (1, 5) ∷ []; value = tt }

abbrev pub name_rows : RowsOf (RouteOf (Unit {0}))
name_rows = (param_token ∷ [], name_route) ∷ []
