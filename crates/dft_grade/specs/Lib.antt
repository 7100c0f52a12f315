pub mod Grades
pub mod Laws
pub mod AllGrades
