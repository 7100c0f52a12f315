-- Values by place: of nets and ports by net, of flip-flops by instance.
pub use Rattle.dft_registers.specs.Cells.{value_at}
