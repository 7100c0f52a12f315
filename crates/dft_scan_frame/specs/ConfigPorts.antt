-- The ports of a configuration in a design, as the rules have them.
pub use Rattle.dft_rules.specs.ConfigPorts.{config_ports}
