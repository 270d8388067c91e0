pub mod Master
pub mod Drive
