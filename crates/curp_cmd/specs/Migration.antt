-- What a migration carries.
use Rattle.std.specs.Prelude.{ℕ, ◌+◌, length}
use Rattle.curp_cmd.specs.declared.migration.Package.{Package}

-- all that a package has
abbrev pub package_len : Package → ℕ
package_len p = length p.pairs + length p.table.records + length p.table.firsts + length p.table.gone
