-- The commands that make an index.
use Rattle.std.specs.Prelude.{ℕ}
use Rattle.dg_graph.specs.declared.function.Function.{Function}
use Rattle.dg_graph.specs.declared.function.Function.TheVariants as function
use Rattle.dg_history.specs.declared.params.Params.{Params}
use Rattle.dg_machine.specs.declared.command.Command.{Command}
use Rattle.dg_machine.specs.declared.command.Command.TheVariants as command
use Rattle.dg_machine.specs.Needs.{share_of}
use Rattle.dg_session.specs.declared.creation_command.AskedFunction.{AskedFunction}
use Rattle.dg_session.specs.declared.creation_command.AskedFunction.TheVariants.{Named, Share}

-- the command that makes an index with this leaf list size, arity and differential function
abbrev pub making : ℕ → ℕ → AskedFunction → Command
making l k (Named f) = command.Create l k f
making l k (Share r) = command.CreateSkewed l k r

-- the share that is tested
abbrev pub share_asked : AskedFunction → ℕ
share_asked (Named f) = share_of f
share_asked (Share r) = r

abbrev pub function_asked : AskedFunction → Function
function_asked (Named f) = f
function_asked (Share r) = function.Skewed r

-- the parameters of the index
abbrev pub params_asked : ℕ → ℕ → AskedFunction → Params
params_asked l k asked = record { l = l; k = k; function = function_asked asked }
